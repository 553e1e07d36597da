-- Where nothing is wrong with an action for anything that its variables may refer to, nothing is where they refer to less.
use Rattle.std.specs.Prelude.{◌≡◌, Bool, true, false, ◌||◌, if◌then◌else◌, List, [], ◌∷◌, ◌++◌, Option, Some, None, ℤ, refl}
use Rattle.std.specs.List.{flat_map, list_any}
use Rattle.std.specs.Option.{option_map_or}
use Rattle.std.proofs.Common.{ap, sym, subst}
use Rattle.mh_base.specs.declared.obj_ref.ObjRef.{ObjRef}
use Rattle.mh_base.specs.declared.value.Kind.TheVariants as kind
use Rattle.mh_base.specs.declared.value.Kind.{Kind}
use Rattle.mh_base.specs.declared.value.Value.TheVariants as value
use Rattle.mh_group.specs.declared.class.Class.{Class}
use Rattle.mh_group.specs.declared.shape.Need.TheVariants as need
use Rattle.mh_group.specs.declared.shape.Need.{Need}
use Rattle.mh_group.specs.Table.{needs_of}
use Rattle.mh_model.specs.declared.act.Act.{Act}
use Rattle.mh_model.specs.declared.act.Argument.TheVariants as argument
use Rattle.mh_model.specs.declared.act.Argument.{Argument}
use Rattle.mh_model.specs.declared.act.Target.TheVariants as target
use Rattle.mh_model.specs.declared.act.Target.{Target}
use Rattle.mh_model.specs.declared.fault.Reason.TheVariants as reason
use Rattle.mh_model.specs.declared.fault.Reason.{Reason}
use Rattle.mh_model.specs.declared.object.Fixed.{Fixed}
use Rattle.mh_model.specs.Faults.{Wrong, unless, object_wrongs, variable_wrongs, admitted_wrongs, named_wrongs, target_wrongs, targets, target_variable, value_wrongs, receiver_wrongs, reference_wrongs, goes_with, untaken, untaken_through, typed_wrongs, operator_wrongs, integer_wrongs, is_test, is_call, call_wrongs, argument_wrongs, arguments_wrongs, is_content_kind, is_data_kind, needs_behind, passed_wrongs, called_wrongs, timer_wrongs, wrongs}
use Rattle.mh_model.specs.Known.{Known, class_at, known_before}
use Rattle.mh_model.specs.Reference.{same_ref}
use Rattle.mh_model.specs.Service.{Service}
use Rattle.mh_model.specs.Variables.{variable_kind, kind_of, same_kind, is_operator}
use Rattle.mh_laws.specs.Active.{known_with}
use Rattle.mh_laws.specs.Flow.{Sets, has, is_reference_in}
use Rattle.mh_model.proofs.ListLemmas.{both_empty, empty_left, empty_right}
use Rattle.mh_model.proofs.ServiceLemmas.{same_ref-same}
use Rattle.mh_laws.proofs.SetLemmas.{AreWithin, first_within, rest_within}

-- What is not wrong

pub holds_unless : (b : Bool) (w : Reason) (v : Option ObjRef) (r : ObjRef) → unless b w v r ≡ [] → b ≡ true
holds_unless true w v r e = refl
holds_unless false w v r e = absurd cc

-- an object with which nothing is wrong is there, and of a class that passes the test
pub fit_object : (is : Class → Bool) (v : Option ObjRef) (r : ObjRef) (m : Option Class) → object_wrongs is v r m ≡ [] → (c : Class) × (m ≡ Some c) × (is c ≡ true)
fit_object is v r None e = absurd cc
fit_object is v r (Some c) e = (c, refl, holds_unless (is c) reason.WrongClass v r e)

-- whatever variable it was named through
pub alike_wrongs : (is : Class → Bool) (v w : Option ObjRef) (r : ObjRef) (m : Option Class) → object_wrongs is v r m ≡ [] → object_wrongs is w r m ≡ []
alike_wrongs is v w r None e = absurd cc
alike_wrongs is v w r (Some c) e = ap (λ (b : Bool). unless b reason.WrongClass w r) (holds_unless (is c) reason.WrongClass v r e)

-- a variable with which nothing is wrong is there, and of a kind that passes the test
pub fit_variable : (is : Kind → Bool) (v : ObjRef) (m : Option Class) → variable_wrongs is v m ≡ [] → option_map_or (λ (c : Class). option_map_or is (variable_kind c) false) m false ≡ true
fit_variable is v None e = absurd cc
fit_variable is v (Some c) e = holds_unless (option_map_or is (variable_kind c) false) reason.WrongKind None v e

-- Fewer references

-- what is known where these are present, with this of variables
abbrev pub knowing : Service → List Fixed → Sets → (ObjRef → Option ℤ) → Known
knowing s ps f g = record (known_before s ps) { refers = f; number = g }

-- at each variable of references that is present
abbrev pub IsWithin : List Fixed → Sets → Sets → Type 0
IsWithin ps f h = (v q : ObjRef) → is_reference_in ps v ≡ true → has f v q ≡ true → has h v q ≡ true

none_at : (at : ObjRef → List Wrong) (rs : List ObjRef) (q : ObjRef) → flat_map at rs ≡ [] → list_any (same_ref q) rs ≡ true → at q ≡ []
none_at at [] q e h = absurd cc
none_at at (r ∷ rs) q e h = by (same_ref q r) refl h (λ more. none_at at rs q (empty_right (at r) (flat_map at rs) e) more)
  where
    by : (b : Bool) → same_ref q r ≡ b → (b || list_any (same_ref q) rs) ≡ true → (list_any (same_ref q) rs ≡ true → at q ≡ []) → at q ≡ []
    by true is h further = subst (λ (x : ObjRef). at x ≡ []) (sym (same_ref-same q r is)) (empty_left (at r) (flat_map at rs) e)
    by false is h further = further h

none_within : (at : ObjRef → List Wrong) (qs rs : List ObjRef) → AreWithin qs rs → flat_map at rs ≡ [] → flat_map at qs ≡ []
none_within at [] rs within e = refl
none_within at (q ∷ qs) rs within e =
    both_empty (at q) (flat_map at qs) (none_at at rs q e (first_within q qs rs within)) (none_within at qs rs (rest_within q qs rs within) e)

-- behind a variable of references
behind_variable : (ps : List Fixed) (f h : Sets) (at : ObjRef → List Wrong) (v : ObjRef) → IsWithin ps f h → variable_wrongs (same_kind kind.Object) v (class_at v ps) ++ flat_map at (h v) ≡ [] → variable_wrongs (same_kind kind.Object) v (class_at v ps) ++ flat_map at (f v) ≡ []
behind_variable ps f h at v within e =
    let first = variable_wrongs (same_kind kind.Object) v (class_at v ps) in
    let none = empty_left first (flat_map at (h v)) e in
    both_empty first (flat_map at (f v)) none
    (none_within at (f v) (h v) (λ q. within v q (fit_variable (same_kind kind.Object) v (class_at v ps) none)) (empty_right first (flat_map at (h v)) e))

-- behind a target with which nothing is wrong
behind_target : (s : Service) (ps : List Fixed) (f h : Sets) (g : ObjRef → Option ℤ) (at : ObjRef → List Wrong) (a : Act) → IsWithin ps f h → target_wrongs (known_with s ps h) a.name a.target ≡ [] → flat_map at (targets (known_with s ps h) a.target) ≡ [] → flat_map at (targets (knowing s ps f g) a.target) ≡ []
behind_target s ps f h g at a within good = by a.target good
  where
    by : (t : Target) → target_wrongs (known_with s ps h) a.name t ≡ [] → flat_map at (targets (known_with s ps h) t) ≡ [] → flat_map at (targets (knowing s ps f g) t) ≡ []
    by (target.Direct r) good e = e
    by (target.Through v) good e =
        let first = variable_wrongs (same_kind kind.Object) v (class_at v ps) in
        empty_right first (flat_map at (f v)) (behind_variable ps f h at v within (both_empty first (flat_map at (h v)) (empty_left first (flat_map (admitted_wrongs (known_before s ps) a.name (Some v)) (h v)) good) e))

-- Each place

target_fewer : (s : Service) (ps : List Fixed) (f h : Sets) (g : ObjRef → Option ℤ) (a : Act) → IsWithin ps f h → target_wrongs (known_with s ps h) a.name a.target ≡ [] → target_wrongs (knowing s ps f g) a.name a.target ≡ []
target_fewer s ps f h g a within = by a.target
  where
    by : (t : Target) → target_wrongs (known_with s ps h) a.name t ≡ [] → target_wrongs (knowing s ps f g) a.name t ≡ []
    by (target.Direct r) e = e
    by (target.Through v) e = behind_variable ps f h (admitted_wrongs (known_before s ps) a.name (Some v)) v within e

called_fewer : (s : Service) (ps : List Fixed) (f h : Sets) (g : ObjRef → Option ℤ) (a : Act) → IsWithin ps f h → target_wrongs (known_with s ps h) a.name a.target ≡ [] → called_wrongs (known_with s ps h) a ≡ [] → called_wrongs (knowing s ps f g) a ≡ []
called_fewer s ps f h g a within good = by (is_call a.name)
  where
    by : (b : Bool) → (if b then flat_map (call_wrongs (known_with s ps h) a) (targets (known_with s ps h) a.target) else []) ≡ [] → (if b then flat_map (call_wrongs (knowing s ps f g) a) (targets (knowing s ps f g) a.target) else []) ≡ []
    by true e = behind_target s ps f h g (call_wrongs (known_before s ps) a) a within good e
    by false e = refl

value_fewer : (s : Service) (ps : List Fixed) (f h : Sets) (g : ObjRef → Option ℤ) (a : Act) (is : Kind → Bool) (x : Argument) → value_wrongs is (known_with s ps h) a x ≡ [] → value_wrongs is (knowing s ps f g) a x ≡ []
value_fewer s ps f h g a is (argument.Direct v) e = e
value_fewer s ps f h g a is (argument.Through v t) e = e
value_fewer s ps f h g a is (argument.Receiver v) e = e

receiver_fewer : (s : Service) (ps : List Fixed) (f h : Sets) (g : ObjRef → Option ℤ) (a : Act) (t : Kind) (x : Argument) → receiver_wrongs t (known_with s ps h) a x ≡ [] → receiver_wrongs t (knowing s ps f g) a x ≡ []
receiver_fewer s ps f h g a t (argument.Direct v) e = e
receiver_fewer s ps f h g a t (argument.Through v u) e = e
receiver_fewer s ps f h g a t (argument.Receiver v) e = e

reference_fewer : (s : Service) (ps : List Fixed) (f h : Sets) (g : ObjRef → Option ℤ) (a : Act) (x : Argument) → IsWithin ps f h → reference_wrongs (known_with s ps h) a x ≡ [] → reference_wrongs (knowing s ps f g) a x ≡ []
reference_fewer s ps f h g a (argument.Direct (value.Object r)) within e = e
reference_fewer s ps f h g a (argument.Direct _) within e = absurd cc
reference_fewer s ps f h g a (argument.Through v t) within e = behind_variable ps f h (named_wrongs (known_before s ps) a.name (Some v)) v within e
reference_fewer s ps f h g a (argument.Receiver v) within e = e

-- an action whose target is right, with what its variables may refer to, and with less
abbrev IsAimed : Service → List Fixed → Sets → Sets → Act → Type 0
IsAimed s ps f h a = IsWithin ps f h × (target_wrongs (known_with s ps h) a.name a.target ≡ [])

typed_fewer : (s : Service) (ps : List Fixed) (f h : Sets) (g : ObjRef → Option ℤ) (a : Act) (x : Argument) → IsAimed s ps f h a → typed_wrongs (known_with s ps h) a x ≡ [] → typed_wrongs (knowing s ps f g) a x ≡ []
typed_fewer s ps f h g a (argument.Direct v) aim e =
    behind_target s ps f h g (untaken (known_before s ps) (λ t. goes_with a.name t (kind_of v)) (target_variable a.target)) a aim.0 aim.1 e
typed_fewer s ps f h g a (argument.Through v None) aim e = e
typed_fewer s ps f h g a (argument.Through v (Some u)) aim e =
    let first = variable_wrongs (same_kind u) v (class_at v ps) in
    let at = untaken_through (known_before s ps) (λ t. goes_with a.name t u) v in
    let more = flat_map at (targets (known_with s ps h) a.target) in
    both_empty first (flat_map at (targets (knowing s ps f g) a.target)) (empty_left first more e)
    (behind_target s ps f h g at a aim.0 aim.1 (empty_right first more e))
typed_fewer s ps f h g a (argument.Receiver v) aim e = e

-- an operator is written itself
operator_fewer : (s : Service) (ps : List Fixed) (f h : Sets) (g : ObjRef → Option ℤ) (a : Act) (x : Argument) → IsAimed s ps f h a → operator_wrongs (known_with s ps h) a x ≡ [] → operator_wrongs (knowing s ps f g) a x ≡ []
operator_fewer s ps f h g a (argument.Direct (value.Int n)) aim e =
    behind_target s ps f h g (untaken (known_before s ps) (λ t. is_operator t n) (target_variable a.target)) a aim.0 aim.1 e
operator_fewer s ps f h g a (argument.Direct _) aim e = refl
operator_fewer s ps f h g a (argument.Through v t) aim e = absurd cc
operator_fewer s ps f h g a (argument.Receiver v) aim e = e

integer_fewer : (s : Service) (ps : List Fixed) (f h : Sets) (g : ObjRef → Option ℤ) (a : Act) (x : Argument) → IsAimed s ps f h a → integer_wrongs (known_with s ps h) a x ≡ [] → integer_wrongs (knowing s ps f g) a x ≡ []
integer_fewer s ps f h g a x aim = by (is_test a.name)
  where
    values : List Wrong
    values = value_wrongs (same_kind kind.Int) (known_with s ps h) a x

    by : (b : Bool) → values ++ (if b then operator_wrongs (known_with s ps h) a x else []) ≡ [] → value_wrongs (same_kind kind.Int) (knowing s ps f g) a x ++ (if b then operator_wrongs (knowing s ps f g) a x else []) ≡ []
    by true e =
        both_empty _ _ (value_fewer s ps f h g a (same_kind kind.Int) x (empty_left values (operator_wrongs (known_with s ps h) a x) e))
        (operator_fewer s ps f h g a x aim (empty_right values (operator_wrongs (known_with s ps h) a x) e))
    by false e = both_empty _ _ (value_fewer s ps f h g a (same_kind kind.Int) x (empty_left values [] e)) refl

-- what a program is called with
passed_fewer : (s : Service) (ps : List Fixed) (f h : Sets) (g : ObjRef → Option ℤ) (a : Act) (x : Argument) → passed_wrongs (known_with s ps h) a x ≡ [] → passed_wrongs (knowing s ps f g) a x ≡ []
passed_fewer s ps f h g a (argument.Direct v) e = e
passed_fewer s ps f h g a (argument.Through v None) e = e
passed_fewer s ps f h g a (argument.Through v (Some u)) e = e
passed_fewer s ps f h g a (argument.Receiver v) e = e

argument_fewer : (s : Service) (ps : List Fixed) (f h : Sets) (g : ObjRef → Option ℤ) (a : Act) (what : Need) (x : Argument) → IsAimed s ps f h a → argument_wrongs (known_with s ps h) a what x ≡ [] → argument_wrongs (knowing s ps f g) a what x ≡ []
argument_fewer s ps f h g a need.Bool x aim e = value_fewer s ps f h g a (same_kind kind.Bool) x e
argument_fewer s ps f h g a need.Int x aim e = integer_fewer s ps f h g a x aim e
argument_fewer s ps f h g a need.Octets x aim e = value_fewer s ps f h g a (same_kind kind.Octets) x e
argument_fewer s ps f h g a need.Ref x aim e = reference_fewer s ps f h g a x aim.0 e
argument_fewer s ps f h g a need.Content x aim e = value_fewer s ps f h g a is_content_kind x e
argument_fewer s ps f h g a need.Data x aim e = value_fewer s ps f h g a is_data_kind x e
argument_fewer s ps f h g a need.Event x aim e = value_fewer s ps f h g a (same_kind kind.Int) x e
argument_fewer s ps f h g a (need.Receiver t) x aim e = receiver_fewer s ps f h g a t x e
argument_fewer s ps f h g a need.Typed x aim e = typed_fewer s ps f h g a x aim e
argument_fewer s ps f h g a need.Arguments x aim e = passed_fewer s ps f h g a x e

arguments_fewer : (s : Service) (ps : List Fixed) (f h : Sets) (g : ObjRef → Option ℤ) (a : Act) (needs : List Need) (xs : List Argument) → IsAimed s ps f h a → arguments_wrongs (known_with s ps h) a needs xs ≡ [] → arguments_wrongs (knowing s ps f g) a needs xs ≡ []
arguments_fewer s ps f h g a [] xs aim e = refl
arguments_fewer s ps f h g a (what ∷ needs) [] aim e = refl
arguments_fewer s ps f h g a (what ∷ needs) (x ∷ xs) aim e =
    let first = argument_wrongs (known_with s ps h) a what x in
    let more = arguments_wrongs (known_with s ps h) a (needs_behind what needs) xs in
    both_empty _ _ (argument_fewer s ps f h g a what x aim (empty_left first more e))
    (arguments_fewer s ps f h g a (needs_behind what needs) xs aim (empty_right first more e))

-- fewer references, fewer wrongs
pub wrongs_fewer : (s : Service) (ps : List Fixed) (f h : Sets) (g : ObjRef → Option ℤ) (a : Act) → IsWithin ps f h → wrongs (known_with s ps h) a ≡ [] → wrongs (knowing s ps f g) a ≡ []
wrongs_fewer s ps f h g a within e =
    let aimed = target_wrongs (known_with s ps h) a.name a.target in
    let called = called_wrongs (known_with s ps h) a in
    let timer = timer_wrongs a.name a.arguments in
    let more = arguments_wrongs (known_with s ps h) a (needs_of a.name) a.arguments in
    let three = empty_left (aimed ++ called ++ timer) more e in
    let two = empty_left (aimed ++ called) timer three in
    let good = empty_left aimed called two in
    both_empty _ _
    (both_empty _ timer (both_empty _ _ (target_fewer s ps f h g a within good) (called_fewer s ps f h g a within good (empty_right aimed called two))) (empty_right (aimed ++ called) timer three))
    (arguments_fewer s ps f h g a (needs_of a.name) a.arguments (within, good) (empty_right (aimed ++ called ++ timer) more e))
