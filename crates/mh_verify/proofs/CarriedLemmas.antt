-- What is wrong with an object to which a variable of an action refers is wrong wherever the variable refers to it, whatever
-- other variables refer to.
use Rattle.std.proofs.Common.{◌≡◌, ◌⊎◌, inl, inr, Bool, true, false, ◌&&◌, cond, List, [], ◌∷◌, ◌++◌, Option, Some, None, ℤ, refl, ap, sym, subst}
use Rattle.std.proofs.lemmas.List.Elements.{Contains-append_left, Contains-append_right, Contains-append_cases}
use Rattle.std.specs.List.{Contains, flat_map}
use Rattle.std.specs.Option.{is_some, option_map_or}
use Rattle.mh_base.specs.declared.obj_ref.ObjRef.{ObjRef}
use Rattle.mh_base.specs.declared.value.Kind.{Kind}
use Rattle.mh_base.specs.declared.value.Kind.TheVariants as kind
use Rattle.mh_base.specs.declared.value.Value.TheVariants as value
use Rattle.mh_group.specs.declared.action_name.ActionName.{ActionName}
use Rattle.mh_group.specs.declared.action_name.ActionName.TheVariants as action
use Rattle.mh_group.specs.declared.class.Class.{Class}
use Rattle.mh_group.specs.declared.shape.Need.{Need}
use Rattle.mh_group.specs.declared.shape.Need.TheVariants as need
use Rattle.mh_group.specs.Table.{admits, needs_of}
use Rattle.mh_model.specs.declared.act.Act.{Act}
use Rattle.mh_model.specs.declared.act.Argument.{Argument}
use Rattle.mh_model.specs.declared.act.Argument.TheVariants as argument
use Rattle.mh_model.specs.declared.act.Target.{Target}
use Rattle.mh_model.specs.declared.act.Target.TheVariants as target
use Rattle.mh_model.specs.declared.fault.Reason.{Reason}
use Rattle.mh_model.specs.declared.fault.Reason.TheVariants as reason
use Rattle.mh_model.specs.declared.object.Fixed.{Fixed}
use Rattle.mh_model.specs.Faults.{Wrong, wrong, unless, object_wrongs, variable_wrongs, target_class, admitted_wrongs, target_wrongs, targets, target_variable, written_at, value_wrongs, receiver_wrongs, takes_object, named_wrongs, reference_wrongs, goes_with, target_takes, untaken, untaken_through, typed_wrongs, is_call, passed, calls_well, call_wrongs, called_wrongs, passed_wrongs, timer_wrongs, unfit_through, operator_wrongs, is_test, integer_wrongs, is_content_kind, is_data_kind, argument_wrongs, needs_behind, arguments_wrongs, wrongs}
use Rattle.mh_model.specs.Known.{Known, known_before}
use Rattle.mh_model.specs.Service.{Service}
use Rattle.mh_model.specs.Variables.{variable_kind, kind_of, same_kind, is_operator}
use Rattle.mh_laws.specs.Active.{known_with}
use Rattle.mh_laws.specs.Flow.{Sets}
use Rattle.mh_flow.specs.Chart.{target_variables}
use Rattle.mh_verify.specs.Held.{argument_variables, variables, is_object_reason}
use Rattle.mh_flow.proofs.ContainsLemmas.{both, no_member, here, first_or_behind, in_joined, joined_from}

-- What is wrong with an object that a variable has, and what is not

-- it is wrong with an object, to which the place came through a variable
abbrev is_held : Wrong → Bool
is_held w = is_object_reason w.reason && is_some w.through

-- through this one
abbrev IsSought : Wrong → ObjRef → Type 0
IsSought w v = (is_held w ≡ true) × (w.through ≡ Some v)

-- none of these is such a one
abbrev IsNone : List Wrong → Wrong → Type 0
IsNone ws w = Contains ws w → is_held w ≡ true → ⊥

none_wrong : (r : Reason) (u : Option ObjRef) (q : ObjRef) (w : Wrong) → (is_object_reason r && is_some u) ≡ false → IsNone (wrong r u q) w
none_wrong r u q w k m held = by (first_or_behind (record { reason = r; at = q; through = u }) [] w m)
  where
    by : ((record { reason = r; at = q; through = u }) ≡ w) ⊎ Contains [] w → ⊥
    by (inl e) = let same : is_held w ≡ (is_object_reason r && is_some u) = sym (ap is_held e) in cc
    by (inr m) = no_member w m

none_unless : (b : Bool) (r : Reason) (u : Option ObjRef) (q : ObjRef) (w : Wrong) → (is_object_reason r && is_some u) ≡ false → IsNone (unless b r u q) w
none_unless true r u q w k m held = no_member w m
none_unless false r u q w k m held = none_wrong r u q w k m held

none_joined : (at : ObjRef → List Wrong) (rs : List ObjRef) (w : Wrong) → ((r : ObjRef) → IsNone (at r) w) → IsNone (flat_map at rs) w
none_joined at rs w each m held = let found = joined_from at rs w m in each found.0 found.2 held

none_of_both : (xs ys : List Wrong) (w : Wrong) → IsNone xs w → IsNone ys w → IsNone (xs ++ ys) w
none_of_both xs ys w first second m held =
    elim (Contains-append_cases xs ys w m) [ inl k ↦ first k held | inr k ↦ second k held ]

-- Places that come to no object through a variable

none_at_variable : (is : Kind → Bool) (u : ObjRef) (m : Option Class) (w : Wrong) → IsNone (variable_wrongs is u m) w
none_at_variable is u None w = none_wrong reason.Absent None u w refl
none_at_variable is u (Some c) w = none_unless (option_map_or is (variable_kind c) false) reason.WrongKind None u w refl

none_at_direct : (is : Class → Bool) (r : ObjRef) (m : Option Class) (w : Wrong) → IsNone (object_wrongs is None r m) w
none_at_direct is r None w = none_wrong reason.Absent None r w refl
none_at_direct is r (Some c) w = none_unless (is c) reason.WrongClass None r w refl

none_untaken : (k : Known) (is : Kind → Bool) (u : Option ObjRef) (r : ObjRef) (w : Wrong) → IsNone (untaken k is u r) w
none_untaken k is u r w = none_unless (target_takes is (k.class_of r)) reason.WrongKind u r w refl

none_untaken_through : (k : Known) (is : Kind → Bool) (u r : ObjRef) (w : Wrong) → IsNone (untaken_through k is u r) w
none_untaken_through k is u r w = none_unless (target_takes is (k.class_of r)) reason.WrongKind None u w refl

none_called : (k : Known) (a : Act) (w : Wrong) → IsNone (called_wrongs k a) w
none_called k a w = by (is_call a.name)
  where
    each : (r : ObjRef) → IsNone (call_wrongs k a r) w
    each r = none_unless (calls_well (k.takes r) (passed a.arguments)) reason.Misfit (target_variable a.target) r w refl

    by : (b : Bool) → IsNone (cond b (flat_map (call_wrongs k a) (targets k a.target)) []) w
    by true = none_joined (call_wrongs k a) (targets k a.target) w each
    by false = λ m held. no_member w m

none_timer : (n : ActionName) (xs : List Argument) (w : Wrong) → IsNone (timer_wrongs n xs) w
none_timer action.SetTimer [] w = λ m held. no_member w m
none_timer action.SetTimer (argument.Direct u ∷ xs) w = λ m held. no_member w m
none_timer action.SetTimer (argument.Through u t ∷ xs) w = none_wrong reason.TimerHeld None u w refl
none_timer action.SetTimer (argument.Receiver u ∷ xs) w = λ m held. no_member w m
none_timer _ xs w = λ m held. no_member w m

none_of_value : (is : Kind → Bool) (k : Known) (a : Act) (x : Argument) (w : Wrong) → IsNone (value_wrongs is k a x) w
none_of_value is k a (argument.Direct u) w = none_unless (is (kind_of u)) reason.WrongKind None (written_at a.target) w refl
none_of_value is k a (argument.Through u t) w = none_at_variable is u (k.class_of u) w
none_of_value is k a (argument.Receiver u) w = none_wrong reason.WrongKind None u w refl

none_of_receiver : (t : Kind) (k : Known) (a : Act) (x : Argument) (w : Wrong) → IsNone (receiver_wrongs t k a x) w
none_of_receiver t k a (argument.Direct u) w = none_wrong reason.WrongKind None (written_at a.target) w refl
none_of_receiver t k a (argument.Through u o) w = none_wrong reason.WrongKind None u w refl
none_of_receiver t k a (argument.Receiver u) w = none_at_variable (same_kind t) u (k.class_of u) w

none_of_typed : (k : Known) (a : Act) (x : Argument) (w : Wrong) → IsNone (typed_wrongs k a x) w
none_of_typed k a (argument.Direct u) w =
    let is : Kind → Bool = λ t. goes_with a.name t (kind_of u) in
    none_joined (untaken k is (target_variable a.target)) (targets k a.target) w
    (λ r. none_untaken k is (target_variable a.target) r w)
none_of_typed k a (argument.Through u None) w = none_wrong reason.WrongKind None u w refl
none_of_typed k a (argument.Through u (Some o)) w =
    let is : Kind → Bool = λ t. goes_with a.name t o in
    none_of_both (variable_wrongs (same_kind o) u (k.class_of u)) (flat_map (untaken_through k is u) (targets k a.target)) w
    (none_at_variable (same_kind o) u (k.class_of u) w)
    (none_joined (untaken_through k is u) (targets k a.target) w (λ r. none_untaken_through k is u r w))
none_of_typed k a (argument.Receiver u) w = none_wrong reason.WrongKind None u w refl

none_of_passed : (k : Known) (a : Act) (x : Argument) (w : Wrong) → IsNone (passed_wrongs k a x) w
none_of_passed k a (argument.Direct u) w = λ m held. no_member w m
none_of_passed k a (argument.Through u None) w = none_wrong reason.WrongKind None u w refl
none_of_passed k a (argument.Through u (Some o)) w = none_at_variable (same_kind o) u (k.class_of u) w
none_of_passed k a (argument.Receiver u) w = none_wrong reason.WrongKind None u w refl

none_unfit : (k : Known) (a : Act) (u : ObjRef) (o : Option ℤ) (w : Wrong) → IsNone (unfit_through k a u o) w
none_unfit k a u None w = none_wrong reason.WrongKind None u w refl
none_unfit k a u (Some n) w =
    let is : Kind → Bool = λ t. is_operator t n in
    none_joined (untaken_through k is u) (targets k a.target) w (λ r. none_untaken_through k is u r w)

none_of_operator : (k : Known) (a : Act) (x : Argument) (w : Wrong) → IsNone (operator_wrongs k a x) w
none_of_operator k a (argument.Direct (value.Int n)) w =
    let is : Kind → Bool = λ t. is_operator t n in
    none_joined (untaken k is (target_variable a.target)) (targets k a.target) w
    (λ r. none_untaken k is (target_variable a.target) r w)
none_of_operator k a (argument.Direct _) w = λ m held. no_member w m
none_of_operator k a (argument.Through u t) w = none_unfit k a u (k.number u) w
none_of_operator k a (argument.Receiver u) w = λ m held. no_member w m

none_of_integer : (k : Known) (a : Act) (x : Argument) (w : Wrong) → IsNone (integer_wrongs k a x) w
none_of_integer k a x w =
    none_of_both (value_wrongs (same_kind kind.Int) k a x) _ w (none_of_value (same_kind kind.Int) k a x w) (by (is_test a.name))
  where
    by : (b : Bool) → IsNone (cond b (operator_wrongs k a x) []) w
    by true = none_of_operator k a x w
    by false = λ m held. no_member w m

-- The places that come to objects through variables

-- What is sought, and wrong at a place where variables refer to this: it is so through one of these variables, with an object
-- to which that refers, and wherever the variable refers to it.
record IsCarriedAt (vs : List ObjRef) (at : Sets → List Wrong) (f : Sets) (w : Wrong) (v : ObjRef) : Type 0 where
  pub variable : Contains vs v
  pub among : Contains (f v) w.at
  pub alike : (h : Sets) → Contains (h v) w.at → Contains (at h) w

abbrev Carries : List ObjRef → (Sets → List Wrong) → Sets → Wrong → ObjRef → Type 0
Carries vs at f w v = Contains (at f) w → IsCarriedAt vs at f w v

none_carried : (vs : List ObjRef) (at : Sets → List Wrong) (f : Sets) (w : Wrong) (v : ObjRef) → IsSought w v → IsNone (at f) w → Carries vs at f w v
none_carried vs at f w v sought none m = absurd (none m sought.0)

both_carried : (vs us : List ObjRef) (at more : Sets → List Wrong) (f : Sets) (w : Wrong) (v : ObjRef) → Carries vs at f w v → Carries us more f w v → Carries (vs ++ us) (λ h. at h ++ more h) f w v
both_carried vs us at more f w v first second m = by (Contains-append_cases (at f) (more f) w m)
  where
    by : Contains (at f) w ⊎ Contains (more f) w → IsCarriedAt (vs ++ us) (λ h. at h ++ more h) f w v
    by (inl k) =
        let c = first k in
        record {
          variable = Contains-append_left vs us v c.variable;
          among = c.among;
          alike = λ h n. Contains-append_left (at h) (more h) w (c.alike h n);
        }
    by (inr k) =
        let c = second k in
        record {
          variable = Contains-append_right vs us v c.variable;
          among = c.among;
          alike = λ h n. Contains-append_right (at h) (more h) w (c.alike h n);
        }

-- before a place that comes to none
before_none : (vs : List ObjRef) (at more : Sets → List Wrong) (f : Sets) (w : Wrong) (v : ObjRef) → IsSought w v → Carries vs at f w v → IsNone (more f) w → Carries vs (λ h. at h ++ more h) f w v
before_none vs at more f w v sought first none m = by (Contains-append_cases (at f) (more f) w m)
  where
    by : Contains (at f) w ⊎ Contains (more f) w → IsCarriedAt vs (λ h. at h ++ more h) f w v
    by (inl k) =
        let c = first k in
        record { variable = c.variable; among = c.among; alike = λ h n. Contains-append_left (at h) (more h) w (c.alike h n) }
    by (inr k) = absurd (none k sought.0)

-- it names this reference, and this variable or none through which the place came to it
abbrev IsNamed : ObjRef → Option ObjRef → Wrong → Type 0
IsNamed r u w = (r ≡ w.at) × (u ≡ w.through)

named_wrong : (why : Reason) (u : Option ObjRef) (r : ObjRef) (w : Wrong) → Contains (wrong why u r) w → IsNamed r u w
named_wrong why u r w m = by (first_or_behind (record { reason = why; at = r; through = u }) [] w m)
  where
    by : ((record { reason = why; at = r; through = u }) ≡ w) ⊎ Contains [] w → IsNamed r u w
    by (inl e) = (ap (λ (x : Wrong). x.at) e, ap (λ (x : Wrong). x.through) e)
    by (inr k) = absurd (no_member w k)

pub named_object : (is : Class → Bool) (u : Option ObjRef) (r : ObjRef) (m : Option Class) (w : Wrong) → Contains (object_wrongs is u r m) w → IsNamed r u w
named_object is u r None w m = named_wrong reason.Absent u r w m
named_object is u r (Some c) w m = by (is c) m
  where
    by : (b : Bool) → Contains (unless b reason.WrongClass u r) w → IsNamed r u w
    by true m = absurd (no_member w m)
    by false m = named_wrong reason.WrongClass u r w m

-- with the objects of a variable
behind_variable : (at : ObjRef → List Wrong) (u : ObjRef) (f : Sets) (w : Wrong) (v : ObjRef) → IsSought w v → ((r : ObjRef) → Contains (at r) w → IsNamed r (Some u) w) → Carries (u ∷ []) (λ h. flat_map at (h u)) f w v
behind_variable at u f w v sought named m = by (joined_from at (f u) w m)
  where
    by : ((r : ObjRef) × Contains (f u) r × Contains (at r) w) → IsCarriedAt (u ∷ []) (λ h. flat_map at (h u)) f w v
    by (r, among, wrong) =
        let name = named r wrong in
        let through = sought.1 in
        let same : u ≡ v = cc in
        let wrong_there = subst (λ (x : ObjRef). Contains (at x) w) name.0 wrong in
        record {
          variable = subst (Contains (u ∷ [])) same (here u []);
          among = subst (λ (x : ObjRef). Contains (f x) w.at) same (subst (Contains (f u)) name.0 among);
          alike = λ h n. in_joined at (h u) w.at w (subst (λ (x : ObjRef). Contains (h x) w.at) (sym same) n) wrong_there;
        }

-- with a variable and its objects
through_variable : (first : List Wrong) (at : ObjRef → List Wrong) (u : ObjRef) (f : Sets) (w : Wrong) (v : ObjRef) → IsSought w v → IsNone first w → ((r : ObjRef) → Contains (at r) w → IsNamed r (Some u) w) → Carries (u ∷ []) (λ h. first ++ flat_map at (h u)) f w v
through_variable first at u f w v sought none named =
    both_carried [] (u ∷ []) (λ h. first) (λ h. flat_map at (h u)) f w v
    (none_carried [] (λ h. first) f w v sought none)
    (behind_variable at u f w v sought named)

target_carried : (s : Service) (ps : List Fixed) (f : Sets) (n : ActionName) (t : Target) (w : Wrong) (v : ObjRef) → IsSought w v → Carries (target_variables t) (λ h. target_wrongs (known_with s ps h) n t) f w v
target_carried s ps f n (target.Direct r) w v sought =
    none_carried [] (λ h. target_wrongs (known_with s ps h) n (target.Direct r)) f w v sought
    (none_at_direct (λ c. admits c n) r (target_class (known_before s ps) n r) w)
target_carried s ps f n (target.Through u) w v sought =
    let k = known_before s ps in
    through_variable (variable_wrongs (same_kind kind.Object) u (k.class_of u)) (admitted_wrongs k n (Some u)) u f w v sought
    (none_at_variable (same_kind kind.Object) u (k.class_of u) w)
    (λ r. named_object (λ c. admits c n) (Some u) r (target_class k n r) w)

reference_carried : (s : Service) (ps : List Fixed) (f : Sets) (a : Act) (x : Argument) (w : Wrong) (v : ObjRef) → IsSought w v → Carries (argument_variables x) (λ h. reference_wrongs (known_with s ps h) a x) f w v
reference_carried s ps f a (argument.Direct (value.Object r)) w v sought =
    none_carried [] (λ h. reference_wrongs (known_with s ps h) a (argument.Direct (value.Object r))) f w v sought
    (none_at_direct (takes_object a.name) r ((known_before s ps).class_of r) w)
reference_carried s ps f a (argument.Direct _) w v sought =
    none_carried [] (λ h. wrong reason.WrongKind None (written_at a.target)) f w v sought
    (none_wrong reason.WrongKind None (written_at a.target) w refl)
reference_carried s ps f a (argument.Through u t) w v sought =
    let k = known_before s ps in
    through_variable (variable_wrongs (same_kind kind.Object) u (k.class_of u)) (named_wrongs k a.name (Some u)) u f w v sought
    (none_at_variable (same_kind kind.Object) u (k.class_of u) w)
    (λ r. named_object (takes_object a.name) (Some u) r (k.class_of r) w)
reference_carried s ps f a (argument.Receiver u) w v sought =
    none_carried [] (λ h. wrong reason.WrongKind None u) f w v sought (none_wrong reason.WrongKind None u w refl)

-- All places

none_of_argument : (k : Known) (a : Act) (what : Need) (x : Argument) (w : Wrong) → (what ≡ need.Ref → ⊥) → IsNone (argument_wrongs k a what x) w
none_of_argument k a need.Bool x w other = none_of_value (same_kind kind.Bool) k a x w
none_of_argument k a need.Int x w other = none_of_integer k a x w
none_of_argument k a need.Octets x w other = none_of_value (same_kind kind.Octets) k a x w
none_of_argument k a need.Ref x w other = absurd (other refl)
none_of_argument k a need.Content x w other = none_of_value is_content_kind k a x w
none_of_argument k a need.Data x w other = none_of_value is_data_kind k a x w
none_of_argument k a need.Event x w other = none_of_value (same_kind kind.Int) k a x w
none_of_argument k a (need.Receiver t) x w other = none_of_receiver t k a x w
none_of_argument k a need.Typed x w other = none_of_typed k a x w
none_of_argument k a need.Arguments x w other = none_of_passed k a x w

argument_carried : (s : Service) (ps : List Fixed) (f : Sets) (a : Act) (what : Need) (x : Argument) (w : Wrong) (v : ObjRef) → IsSought w v → Carries (argument_variables x) (λ h. argument_wrongs (known_with s ps h) a what x) f w v
argument_carried s ps f a need.Ref x w v sought = reference_carried s ps f a x w v sought
argument_carried s ps f a what x w v sought =
    none_carried (argument_variables x) (λ h. argument_wrongs (known_with s ps h) a what x) f w v sought
    (none_of_argument (known_with s ps f) a what x w (λ e. cc))

arguments_carried : (s : Service) (ps : List Fixed) (f : Sets) (a : Act) (needs : List Need) (xs : List Argument) (w : Wrong) (v : ObjRef) → IsSought w v → Carries (flat_map argument_variables xs) (λ h. arguments_wrongs (known_with s ps h) a needs xs) f w v
arguments_carried s ps f a [] xs w v sought = λ m. absurd (no_member w m)
arguments_carried s ps f a (what ∷ needs) [] w v sought = λ m. absurd (no_member w m)
arguments_carried s ps f a (what ∷ needs) (x ∷ xs) w v sought =
    both_carried (argument_variables x) (flat_map argument_variables xs)
    (λ h. argument_wrongs (known_with s ps h) a what x)
    (λ h. arguments_wrongs (known_with s ps h) a (needs_behind what needs) xs) f w v
    (argument_carried s ps f a what x w v sought)
    (arguments_carried s ps f a (needs_behind what needs) xs w v sought)

-- what is wrong with an object to which a variable refers is wrong through a variable of the action, and wherever that
-- refers to it
pub record IsCarried (s : Service) (ps : List Fixed) (f : Sets) (a : Act) (w : Wrong) (v : ObjRef) : Type 0 where
  pub variable : Contains (variables a) v
  pub among : Contains (f v) w.at
  pub alike : (h : Sets) → Contains (h v) w.at → Contains (wrongs (known_with s ps h) a) w

pub carried : (s : Service) (ps : List Fixed) (f : Sets) (a : Act) (w : Wrong) (v : ObjRef) → Contains (wrongs (known_with s ps f) a) w → is_object_reason w.reason ≡ true → w.through ≡ Some v → IsCarried s ps f a w v
carried s ps f a w v m object through =
    let some = ap (λ (u : Option ObjRef). is_some u) through in
    let sought : IsSought w v = (both (is_object_reason w.reason) (is_some w.through) object some, through) in
    let aimed : Sets → List Wrong = λ h. target_wrongs (known_with s ps h) a.name a.target in
    let called : Sets → List Wrong = λ h. called_wrongs (known_with s ps h) a in
    let timer : Sets → List Wrong = λ h. timer_wrongs a.name a.arguments in
    let more : Sets → List Wrong = λ h. arguments_wrongs (known_with s ps h) a (needs_of a.name) a.arguments in
    let vs = target_variables a.target in
    let one = target_carried s ps f a.name a.target w v sought in
    let two = before_none vs aimed called f w v sought one (none_called (known_with s ps f) a w) in
    let three = before_none vs (λ h. aimed h ++ called h) timer f w v sought two (none_timer a.name a.arguments w) in
    let rest = arguments_carried s ps f a (needs_of a.name) a.arguments w v sought in
    let us = flat_map argument_variables a.arguments in
    let c = both_carried vs us (λ h. aimed h ++ called h ++ timer h) more f w v three rest m in
    record { variable = c.variable; among = c.among; alike = c.alike }
