-- What is wrong with an action or with a member, by what variables may refer to, is wrong too where each refers to one object: to
-- the reference that is named, or to another that is present. Only of calls, which need programs, nothing is said.
use Rattle.std.proofs.Common.{◌≡◌, ◌⊎◌, inl, inr, Bool, true, false, cond, List, [], ◌∷◌, ◌++◌, map, Option, Some, None, refl, ap, sym, subst}
use Rattle.std.proofs.lemmas.List.Elements.{Contains-append_left, Contains-append_right, Contains-append_cases}
use Rattle.std.specs.List.{Contains, flat_map}
use Rattle.std.specs.Option.{option_map}
use Rattle.mh_base.specs.declared.obj_ref.ObjRef.{ObjRef}
use Rattle.mh_base.specs.declared.value.Kind.{Kind}
use Rattle.mh_base.specs.declared.value.Kind.TheVariants as kind
use Rattle.mh_base.specs.declared.value.Value.TheVariants as value
use Rattle.mh_group.specs.declared.action_name.ActionName.{ActionName}
use Rattle.mh_group.specs.declared.class.Class.{Class}
use Rattle.mh_group.specs.declared.shape.Need.{Need}
use Rattle.mh_group.specs.declared.shape.Need.TheVariants as need
use Rattle.mh_group.specs.Table.{admits, is_list_group, needs_of}
use Rattle.mh_model.specs.declared.act.Act.{Act}
use Rattle.mh_model.specs.declared.act.Argument.{Argument}
use Rattle.mh_model.specs.declared.act.Argument.TheVariants as argument
use Rattle.mh_model.specs.declared.act.Target.{Target}
use Rattle.mh_model.specs.declared.act.Target.TheVariants as target
use Rattle.mh_model.specs.declared.fault.Reason.TheVariants as reason
use Rattle.mh_model.specs.declared.object.Fixed.{Fixed}
use Rattle.mh_model.specs.declared.program.Signature.{Signature}
use Rattle.mh_model.specs.Faults.{Wrong, wrong, unless, variable_wrongs, target_class, admitted_wrongs, target_wrongs, targets, target_variable, written_at, value_wrongs, receiver_wrongs, takes_object, named_wrongs, reference_wrongs, goes_with, target_takes, untaken, untaken_through, typed_wrongs, is_call, passed, calls_well, call_wrongs, called_wrongs, passed_wrongs, timer_wrongs, operator_wrongs, is_test, integer_wrongs, is_content_kind, is_data_kind, argument_wrongs, needs_behind, arguments_wrongs, wrongs}
use Rattle.mh_model.specs.Known.{Known, class_at, known_before}
use Rattle.mh_model.specs.Reference.{same_ref}
use Rattle.mh_model.specs.Service.{Service, part_at}
use Rattle.mh_model.specs.Tokens.{members}
use Rattle.mh_model.specs.Variables.{same_kind, is_operator, kind_of}
use Rattle.mh_model.proofs.ServiceLemmas.{same_ref-same}
use Rattle.mh_laws.specs.Active.{item_wrongs, known_with, member_wrongs}
use Rattle.mh_laws.specs.Flow.{Sets}
use Rattle.mh_flow.specs.Equipment.{equipped}
use Rattle.mh_flow.proofs.ContainsLemmas.{no_member, here, behind, first_or_behind, in_joined, joined_from}
use Rattle.mh_flow.proofs.ListedLemmas.{mapped}
use Rattle.mh_flow.proofs.PlaceLemmas.{found_member}
use Rattle.mh_verify.specs.Evidence.{all_have, granted}
use Rattle.mh_verify.specs.Refusals.{part_wrongs}
use Rattle.mh_verify.proofs.CandidateLemmas.{of_object}
use Rattle.mh_verify.proofs.CarriedLemmas.{named_object}

-- What is wrong is among the second, where each variable refers to some object that is granted.
pub record IsGranted (ps : List Fixed) (to : ObjRef → List Wrong) (w : Wrong) : Type 0 where
  pub at : ObjRef
  pub among : Contains (granted ps w.at) at
  pub alike : Contains (to at) w

-- if it is among the first
abbrev Grants : List Fixed → List Wrong → (ObjRef → List Wrong) → Wrong → Type 0
Grants ps from to w = Contains from w → IsGranted ps to w

-- what looks at no variable
stands : (ps : List Fixed) (ws : List Wrong) (w : Wrong) → Grants ps ws (λ r. ws) w
stands ps ws w m = record { at = w.at; among = here w.at (map (λ (p : Fixed). p.key) ps); alike = m }

both_granted : (ps : List Fixed) (from more : List Wrong) (to again : ObjRef → List Wrong) (w : Wrong) → Grants ps from to w → Grants ps more again w → Grants ps (from ++ more) (λ r. to r ++ again r) w
both_granted ps from more to again w first second m = elim (Contains-append_cases from more w m) [
  | inl k ↦
      let g = first k in
      record { at = g.at; among = g.among; alike = Contains-append_left (to g.at) (again g.at) w g.alike }
  | inr k ↦
      let g = second k in
      record { at = g.at; among = g.among; alike = Contains-append_right (to g.at) (again g.at) w g.alike }
]

-- what is wrong with an object to which a variable refers: it names the object, or that is present
abbrev IsKnownAs : List Fixed → ObjRef → Wrong → Type 0
IsKnownAs ps r w = (r ≡ w.at) ⊎ Contains (map (λ (p : Fixed). p.key) ps) r

granted_at : (ps : List Fixed) (r : ObjRef) (w : Wrong) → IsKnownAs ps r w → Contains (granted ps w.at) r
granted_at ps r w (inl same) = subst (Contains (granted ps w.at)) (sym same) (here w.at (map (λ (p : Fixed). p.key) ps))
granted_at ps r w (inr m) = behind w.at (map (λ (p : Fixed). p.key) ps) r m

of_variable : (ps : List Fixed) (at : ObjRef → List Wrong) (rs : List ObjRef) (w : Wrong) → ((r : ObjRef) → Contains (at r) w → IsKnownAs ps r w) → Grants ps (flat_map at rs) (λ r. flat_map at (r ∷ [])) w
of_variable ps at rs w known m =
    let from = joined_from at rs w m in
    record { at = from.0; among = granted_at ps from.0 w (known from.0 from.2); alike = in_joined at (from.0 ∷ []) from.0 w (here from.0 []) from.2 }

-- Objects that are present

-- what is found is present under its reference
class_present : (ps : List Fixed) (r : ObjRef) (c : Class) → class_at r ps ≡ Some c → Contains (map (λ (p : Fixed). p.key) ps) r
class_present ps r c e = by (part_at r ps) refl e
  where
    by : (o : Option Fixed) → part_at r ps ≡ o → option_map (λ (p : Fixed). p.class) o ≡ Some c → Contains (map (λ (p : Fixed). p.key) ps) r
    by None at e = absurd cc
    by (Some p) at e =
        let found = found_member (λ (x : Fixed). same_ref r x.key) ps p at in
        subst (Contains (map (λ (x : Fixed). x.key) ps)) (sym (same_ref-same r p.key found.0)) (mapped (λ (x : Fixed). x.key) ps p found.1)

-- a target that takes not every value is present
untaken_present : (ps : List Fixed) (is : Kind → Bool) (r : ObjRef) (ws : List Wrong) (w : Wrong) → Contains (cond (target_takes is (class_at r ps)) [] ws) w → Contains (map (λ (p : Fixed). p.key) ps) r
untaken_present ps is r ws w m = by (class_at r ps) refl m
  where
    by : (o : Option Class) → class_at r ps ≡ o → Contains (cond (target_takes is o) [] ws) w → Contains (map (λ (p : Fixed). p.key) ps) r
    by None e m = absurd (no_member w m)
    by (Some c) e m = class_present ps r c e

-- All places of an action

module _ (s : Service) (programs : List Signature) (ps : List Fixed) (f : Sets) where
  -- what is known by the flow, with what programs the receiver has
  abbrev flowing : Known
  flowing = known_with (equipped s programs) ps f

  abbrev before : Known
  before = known_before s ps

  -- and where each variable refers to one object
  abbrev granting : ObjRef → Known
  granting r = known_with s ps (all_have r)

  of_targets : (t : Target) (at : ObjRef → List Wrong) (w : Wrong) → ((r : ObjRef) → Contains (at r) w → IsKnownAs ps r w) → Grants ps (flat_map at (targets flowing t)) (λ r. flat_map at (targets (granting r) t)) w
  of_targets (target.Direct u) at w known = stands ps (flat_map at (u ∷ [])) w
  of_targets (target.Through u) at w known = of_variable ps at (f u) w known

  target_granted : (n : ActionName) (t : Target) (w : Wrong) → Grants ps (target_wrongs flowing n t) (λ r. target_wrongs (granting r) n t) w
  target_granted n (target.Direct u) w = stands ps (admitted_wrongs before n None u) w
  target_granted n (target.Through u) w =
      both_granted ps (variable_wrongs (same_kind kind.Object) u (before.class_of u)) (flat_map (admitted_wrongs before n (Some u)) (f u))
      (λ r. variable_wrongs (same_kind kind.Object) u (before.class_of u)) (λ r. flat_map (admitted_wrongs before n (Some u)) (r ∷ [])) w
      (stands ps (variable_wrongs (same_kind kind.Object) u (before.class_of u)) w)
      (of_variable ps (admitted_wrongs before n (Some u)) (f u) w
      (λ r m. inl (named_object (λ c. admits c n) (Some u) r (target_class before n r) w m).0))

  -- a call is wrong with its program alone
  called_misfits : (a : Act) (w : Wrong) → Contains (called_wrongs flowing a) w → w.reason ≡ reason.Misfit
  called_misfits a w m = by (is_call a.name) m
    where
      one : (b : Bool) (r : ObjRef) → Contains (unless b reason.Misfit (target_variable a.target) r) w → w.reason ≡ reason.Misfit
      one true r k = absurd (no_member w k)
      one false r k = elim (first_or_behind _ [] w k) [
        | inl same ↦ sym (ap (λ (z : Wrong). z.reason) same)
        | inr none ↦ absurd (no_member w none)
      ]

      by : (b : Bool) → Contains (cond b (flat_map (call_wrongs flowing a) (targets flowing a.target)) []) w → w.reason ≡ reason.Misfit
      by true k =
          let from = joined_from (call_wrongs flowing a) (targets flowing a.target) w k in
          one (calls_well (flowing.takes from.0) (passed a.arguments)) from.0 from.2
      by false k = absurd (no_member w k)

  called_granted : (a : Act) (w : Wrong) → (w.reason ≡ reason.Misfit → ⊥) → Grants ps (called_wrongs flowing a) (λ r. called_wrongs (granting r) a) w
  called_granted a w fits m = absurd (fits (called_misfits a w m))

  value_granted : (is : Kind → Bool) (a : Act) (x : Argument) (w : Wrong) → Grants ps (value_wrongs is flowing a x) (λ r. value_wrongs is (granting r) a x) w
  value_granted is a (argument.Direct u) w = stands ps (value_wrongs is before a (argument.Direct u)) w
  value_granted is a (argument.Through u t) w = stands ps (value_wrongs is before a (argument.Through u t)) w
  value_granted is a (argument.Receiver u) w = stands ps (value_wrongs is before a (argument.Receiver u)) w

  receiver_granted : (t : Kind) (a : Act) (x : Argument) (w : Wrong) → Grants ps (receiver_wrongs t flowing a x) (λ r. receiver_wrongs t (granting r) a x) w
  receiver_granted t a (argument.Direct u) w = stands ps (receiver_wrongs t before a (argument.Direct u)) w
  receiver_granted t a (argument.Through u o) w = stands ps (receiver_wrongs t before a (argument.Through u o)) w
  receiver_granted t a (argument.Receiver u) w = stands ps (receiver_wrongs t before a (argument.Receiver u)) w

  reference_granted : (a : Act) (x : Argument) (w : Wrong) → Grants ps (reference_wrongs flowing a x) (λ r. reference_wrongs (granting r) a x) w
  reference_granted a (argument.Direct (value.Object q)) w = stands ps (named_wrongs before a.name None q) w
  reference_granted a (argument.Direct _) w = stands ps (wrong reason.WrongKind None (written_at a.target)) w
  reference_granted a (argument.Through u t) w =
      both_granted ps (variable_wrongs (same_kind kind.Object) u (before.class_of u)) (flat_map (named_wrongs before a.name (Some u)) (f u))
      (λ r. variable_wrongs (same_kind kind.Object) u (before.class_of u)) (λ r. flat_map (named_wrongs before a.name (Some u)) (r ∷ [])) w
      (stands ps (variable_wrongs (same_kind kind.Object) u (before.class_of u)) w)
      (of_variable ps (named_wrongs before a.name (Some u)) (f u) w
      (λ r m. inl (named_object (takes_object a.name) (Some u) r (before.class_of r) w m).0))
  reference_granted a (argument.Receiver u) w = stands ps (wrong reason.WrongKind None u) w

  -- a value that the target does not take
  untaken_granted : (is : Kind → Bool) (a : Act) (w : Wrong) → Grants ps (flat_map (untaken flowing is (target_variable a.target)) (targets flowing a.target)) (λ r. flat_map (untaken (granting r) is (target_variable a.target)) (targets (granting r) a.target)) w
  untaken_granted is a w =
      of_targets a.target (untaken before is (target_variable a.target)) w
      (λ r m. inr (untaken_present ps is r (wrong reason.WrongKind (target_variable a.target) r) w m))

  through_granted : (is : Kind → Bool) (u : ObjRef) (a : Act) (w : Wrong) → Grants ps (flat_map (untaken_through flowing is u) (targets flowing a.target)) (λ r. flat_map (untaken_through (granting r) is u) (targets (granting r) a.target)) w
  through_granted is u a w =
      of_targets a.target (untaken_through before is u) w
      (λ r m. inr (untaken_present ps is r (wrong reason.WrongKind None u) w m))

  typed_granted : (a : Act) (x : Argument) (w : Wrong) → Grants ps (typed_wrongs flowing a x) (λ r. typed_wrongs (granting r) a x) w
  typed_granted a (argument.Direct u) w = untaken_granted (λ t. goes_with a.name t (kind_of u)) a w
  typed_granted a (argument.Through u None) w = stands ps (wrong reason.WrongKind None u) w
  typed_granted a (argument.Through u (Some o)) w =
      let is : Kind → Bool = λ t. goes_with a.name t o in
      both_granted ps (variable_wrongs (same_kind o) u (before.class_of u)) (flat_map (untaken_through flowing is u) (targets flowing a.target))
      (λ r. variable_wrongs (same_kind o) u (before.class_of u)) (λ r. flat_map (untaken_through (granting r) is u) (targets (granting r) a.target)) w
      (stands ps (variable_wrongs (same_kind o) u (before.class_of u)) w)
      (through_granted is u a w)
  typed_granted a (argument.Receiver u) w = stands ps (wrong reason.WrongKind None u) w

  passed_granted : (a : Act) (x : Argument) (w : Wrong) → Grants ps (passed_wrongs flowing a x) (λ r. passed_wrongs (granting r) a x) w
  passed_granted a (argument.Direct u) w = stands ps [] w
  passed_granted a (argument.Through u None) w = stands ps (wrong reason.WrongKind None u) w
  passed_granted a (argument.Through u (Some o)) w = stands ps (variable_wrongs (same_kind o) u (before.class_of u)) w
  passed_granted a (argument.Receiver u) w = stands ps (wrong reason.WrongKind None u) w

  operator_granted : (a : Act) (x : Argument) (w : Wrong) → Grants ps (operator_wrongs flowing a x) (λ r. operator_wrongs (granting r) a x) w
  operator_granted a (argument.Direct (value.Int n)) w = untaken_granted (λ t. is_operator t n) a w
  operator_granted a (argument.Direct _) w = stands ps [] w
  operator_granted a (argument.Through u t) w = stands ps (wrong reason.WrongKind None u) w
  operator_granted a (argument.Receiver u) w = stands ps [] w

  integer_granted : (a : Act) (x : Argument) (w : Wrong) → Grants ps (integer_wrongs flowing a x) (λ r. integer_wrongs (granting r) a x) w
  integer_granted a x w =
      both_granted ps (value_wrongs (same_kind kind.Int) flowing a x) (cond (is_test a.name) (operator_wrongs flowing a x) [])
      (λ r. value_wrongs (same_kind kind.Int) (granting r) a x) (λ r. cond (is_test a.name) (operator_wrongs (granting r) a x) []) w
      (value_granted (same_kind kind.Int) a x w) (by (is_test a.name))
    where
      by : (b : Bool) → Grants ps (cond b (operator_wrongs flowing a x) []) (λ r. cond b (operator_wrongs (granting r) a x) []) w
      by true = operator_granted a x w
      by false = stands ps [] w

  argument_granted : (a : Act) (what : Need) (x : Argument) (w : Wrong) → Grants ps (argument_wrongs flowing a what x) (λ r. argument_wrongs (granting r) a what x) w
  argument_granted a need.Bool x w = value_granted (same_kind kind.Bool) a x w
  argument_granted a need.Int x w = integer_granted a x w
  argument_granted a need.Octets x w = value_granted (same_kind kind.Octets) a x w
  argument_granted a need.Ref x w = reference_granted a x w
  argument_granted a need.Content x w = value_granted is_content_kind a x w
  argument_granted a need.Data x w = value_granted is_data_kind a x w
  argument_granted a need.Event x w = value_granted (same_kind kind.Int) a x w
  argument_granted a (need.Receiver t) x w = receiver_granted t a x w
  argument_granted a need.Typed x w = typed_granted a x w
  argument_granted a need.Arguments x w = passed_granted a x w

  arguments_granted : (a : Act) (needs : List Need) (xs : List Argument) (w : Wrong) → Grants ps (arguments_wrongs flowing a needs xs) (λ r. arguments_wrongs (granting r) a needs xs) w
  arguments_granted a [] xs w = stands ps [] w
  arguments_granted a (what ∷ needs) [] w = stands ps [] w
  arguments_granted a (what ∷ needs) (x ∷ xs) w =
      both_granted ps (argument_wrongs flowing a what x) (arguments_wrongs flowing a (needs_behind what needs) xs)
      (λ r. argument_wrongs (granting r) a what x) (λ r. arguments_wrongs (granting r) a (needs_behind what needs) xs) w
      (argument_granted a what x w) (arguments_granted a (needs_behind what needs) xs w)

  -- whatever is wrong with the action but that a call does not fit
  pub action_granted : (a : Act) (w : Wrong) → (w.reason ≡ reason.Misfit → ⊥) → Contains (wrongs flowing a) w → IsGranted ps (λ r. wrongs (granting r) a) w
  action_granted a w fits m =
      let aimed : ObjRef → List Wrong = λ r. target_wrongs (granting r) a.name a.target in
      let called : ObjRef → List Wrong = λ r. called_wrongs (granting r) a in
      let timer : ObjRef → List Wrong = λ r. timer_wrongs a.name a.arguments in
      let more : ObjRef → List Wrong = λ r. arguments_wrongs (granting r) a (needs_of a.name) a.arguments in
      let one : List Wrong = target_wrongs flowing a.name a.target in
      let two : List Wrong = called_wrongs flowing a in
      let three : List Wrong = timer_wrongs a.name a.arguments in
      both_granted ps (one ++ two ++ three) (arguments_wrongs flowing a (needs_of a.name) a.arguments)
      (λ r. aimed r ++ called r ++ timer r) more w
      (both_granted ps (one ++ two) three (λ r. aimed r ++ called r) timer w
      (both_granted ps one two aimed called w (target_granted a.name a.target w) (called_granted a w fits))
      (stands ps three w))
      (arguments_granted a (needs_of a.name) a.arguments w) m

-- Members

-- whatever is wrong with a member of a group of objects names it
pub part_granted : (ps : List Fixed) (f : Sets) (p : Fixed) (w : Wrong) → Contains (part_wrongs ps f p) w → IsGranted ps (λ r. part_wrongs ps (all_have r) p) w
part_granted ps f p w m = by (is_list_group p.class) m
  where
    by : (b : Bool) → Grants ps (cond b (flat_map (item_wrongs ps p.key) (f p.key)) (flat_map (member_wrongs ps) (members p))) (λ r. cond b (flat_map (item_wrongs ps p.key) (r ∷ [])) (flat_map (member_wrongs ps) (members p))) w
    by true = of_variable ps (item_wrongs ps p.key) (f p.key) w (λ r k. inl (sym (of_object ps (Some p.key) r w k).1))
    by false = stands ps (flat_map (member_wrongs ps) (members p)) w
