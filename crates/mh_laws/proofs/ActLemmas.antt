-- What a safe state knows of an action that it does: nothing is wrong with it.
use Rattle.std.specs.Prelude.{◌≡◌, ◌==◌, Bool, true, false, ◌&&◌, if◌then◌else◌, List, [], ◌∷◌, ◌++◌, Option, Some, None, ℤ, refl}
use Rattle.std.specs.List.{flat_map}
use Rattle.std.specs.Option.{option_to_list, option_map_or}
use Rattle.std.proofs.Common.{ap, ◌∙◌, sym, subst}
use Rattle.mh_base.specs.declared.obj_ref.ObjRef.{ObjRef}
use Rattle.mh_base.specs.declared.value.Kind.TheVariants as kind
use Rattle.mh_group.specs.declared.action_name.ActionName.TheVariants as action
use Rattle.mh_group.specs.declared.action_name.ActionName.{ActionName}
use Rattle.mh_group.specs.declared.class.Class.TheVariants as class
use Rattle.mh_group.specs.declared.class.Class.{Class}
use Rattle.mh_group.specs.Table.{admits, needs_of, is_list_group}
use Rattle.mh_model.specs.declared.act.Act.{Act}
use Rattle.mh_model.specs.declared.act.Target.TheVariants as target
use Rattle.mh_model.specs.declared.act.Target.{Target}
use Rattle.mh_model.specs.declared.object.Fixed.{Fixed}
use Rattle.mh_model.specs.declared.object.Object.{Object}
use Rattle.mh_model.specs.declared.sort.Sort.TheVariants as sort
use Rattle.mh_model.specs.Arguments.{referred, held_by}
use Rattle.mh_model.specs.Configuration.{present}
use Rattle.mh_model.specs.Faults.{targets, timer_wrongs, wrongs, target_class, is_transition, object_wrongs, variable_wrongs, admitted_wrongs, target_wrongs, called_wrongs, arguments_wrongs}
use Rattle.mh_model.specs.Known.{Known, class_at, known_before, as_integer}
use Rattle.mh_model.specs.Property.{as_reference}
use Rattle.mh_model.specs.Reference.{same_ref}
use Rattle.mh_model.specs.Service.{object_at}
use Rattle.mh_model.specs.Sort.{sort_of}
use Rattle.mh_model.specs.State.{State, all}
use Rattle.mh_model.specs.Variables.{same_kind}
use Rattle.mh_laws.specs.Active.{known_with}
use Rattle.mh_laws.specs.Flow.{has, MayBe, Flow, Sets, refers, is_reference_in}
use Rattle.mh_laws.specs.Safe.{config_of, IsFine, IsHeldOnce, IsSafeBy}
use Rattle.mh_model.proofs.ListLemmas.{empty_is, empty_left, empty_right, some_same}
use Rattle.mh_laws.proofs.EachLemmas.{each_joined, each_found}
use Rattle.mh_laws.proofs.FaultLemmas.{knowing, IsWithin, wrongs_fewer, fit_variable, alike_wrongs, fit_object}
use Rattle.mh_laws.proofs.HeldLemmas.{found_key, class_found}
use Rattle.mh_laws.proofs.SetLemmas.{one_of}
use Rattle.mh_laws.proofs.StateLemmas.{parts_present}

-- The state's sets, and what its variables refer to and hold

abbrev pub sets_of : {fw : Flow} (s : State) → IsSafeBy fw s → Sets
sets_of {fw} s k = fw.sets (config_of s)

abbrev pub parts_of : State → List Fixed
parts_of s = present s.service (config_of s)

abbrev pub refers_now : State → Sets
refers_now s v = option_to_list (as_reference (held_by (object_at v (all s.objects))))

abbrev pub number_now : State → ObjRef → Option ℤ
number_now s v = as_integer (held_by (object_at v (all s.objects)))

abbrev pub known_now : State → Known
known_now s = knowing s.service (parts_of s) (λ v. refers_now s v) (λ v. number_now s v)

pub held_at : {fw : Flow} (s : State) (k : IsSafeBy fw s) (r : ObjRef) (o : Object) → object_at r (all s.objects) ≡ Some o → IsHeldOnce (sets_of s k) o
held_at {fw} s k r o e =
    each_found (IsHeldOnce (sets_of s k)) (λ (x : Object). same_ref r x.fixed.key) (all s.objects) o
    (each_joined (IsHeldOnce (sets_of s k)) s.objects.application s.objects.scene k.own_held k.others_held) e

pub class_now : {fw : Flow} (s : State) (k : IsSafeBy fw s) (r : ObjRef) (o : Object) → object_at r (all s.objects) ≡ Some o → class_at r (parts_of s) ≡ Some o.fixed.class
class_now {fw} s k r o e = ap (class_at r) (sym (parts_present s k)) ∙ class_found r (all s.objects) o e

-- what a variable of references refers to is in its set
pub possible_now : {fw : Flow} (s : State) (k : IsSafeBy fw s) (v q : ObjRef) → is_reference_in (parts_of s) v ≡ true → as_reference (held_by (object_at v (all s.objects))) ≡ Some q → has (sets_of s k) v q ≡ true
possible_now {fw} s k v q is e = by (object_at v (all s.objects)) refl e
  where
    by : (m : Option Object) → object_at v (all s.objects) ≡ m → as_reference (held_by m) ≡ Some q → has (sets_of s k) v q ≡ true
    by None at e = absurd cc
    by (Some o) at e =
        let of_class : refers o.fixed.class ≡ true = sym (ap (λ (m : Option Class). option_map_or refers m false) (class_now s k v o at)) ∙ is in
        subst (λ (x : ObjRef). has (sets_of s k) x q ≡ true) (sym (found_key v (all s.objects) o at)) ((held_at s k v o at).value of_class q e)

within_now : {fw : Flow} (s : State) (k : IsSafeBy fw s) → IsWithin (parts_of s) (λ v. refers_now s v) (sets_of s k)
within_now {fw} s k v q is h = possible_now s k v q is (one_of (as_reference (held_by (object_at v (all s.objects)))) q h)

-- Nothing is wrong with an action, done to this.
pub record IsSound (fw : Flow) (s : State) (k : IsSafeBy fw s) (a : Act) (r : ObjRef) : Type 0 where
  pub fine : IsFine s.service fw (config_of s) a
  pub at : targets (known_now s) a.target ≡ r ∷ []
  pub fit : admitted_wrongs (known_before s.service (parts_of s)) a.name None r ≡ []
  pub may : MayBe (sets_of s k) (parts_of s) a.target r
  pub called : called_wrongs (known_now s) a ≡ []
  pub good : arguments_wrongs (known_now s) a (needs_of a.name) a.arguments ≡ []

pub none_wrong : {fw : Flow} (s : State) (k : IsSafeBy fw s) (a : Act) → IsFine s.service fw (config_of s) a → wrongs (known_now s) a ≡ []
none_wrong {fw} s k a fine =
    wrongs_fewer s.service (parts_of s) (λ v. refers_now s v) (sets_of s k) (λ v. number_now s v) a (within_now s k)
    (empty_is (wrongs (known_with s.service (parts_of s) (sets_of s k)) a) fine.right)

-- what a target comes to is all that it may come to now
comes_to : (s : State) (t : Target) (r : ObjRef) → referred t (all s.objects) ≡ Some r → targets (known_now s) t ≡ r ∷ []
comes_to s (target.Direct x) r e = ap (λ (y : ObjRef). y ∷ []) (some_same e)
comes_to s (target.Through v) r e = ap (λ (m : Option ObjRef). option_to_list m) e

sound_target : {fw : Flow} (s : State) (k : IsSafeBy fw s) (n : ActionName) (t : Target) (r : ObjRef) → referred t (all s.objects) ≡ Some r → target_wrongs (known_now s) n t ≡ [] → (admitted_wrongs (known_before s.service (parts_of s)) n None r ≡ []) × MayBe (sets_of s k) (parts_of s) t r
sound_target {fw} s k n (target.Direct x) r e none = (subst (λ (y : ObjRef). admitted_wrongs (known_before s.service (parts_of s)) n None y ≡ []) (some_same e) none, some_same e)
sound_target {fw} s k n (target.Through v) r e none =
    let before = known_before s.service (parts_of s) in
    let first = variable_wrongs (same_kind kind.Object) v (class_at v (parts_of s)) in
    let more = flat_map (admitted_wrongs (known_now s) n (Some v)) (refers_now s v) in
    let is : is_reference_in (parts_of s) v ≡ true = fit_variable (same_kind kind.Object) v (class_at v (parts_of s)) (empty_left first more none) in
    let it : admitted_wrongs before n (Some v) r ++ [] ≡ [] =
    subst (λ (m : Option ObjRef). flat_map (admitted_wrongs before n (Some v)) (option_to_list m) ≡ []) e (empty_right first more none) in
    (alike_wrongs (λ c. admits c n) (Some v) None r (target_class before n r) (empty_left (admitted_wrongs before n (Some v) r) [] it), (is, possible_now s k v r is e))

pub sound : {fw : Flow} (s : State) (k : IsSafeBy fw s) (a : Act) (r : ObjRef) → IsFine s.service fw (config_of s) a → referred a.target (all s.objects) ≡ Some r → IsSound fw s k a r
sound {fw} s k a r fine e =
    let none = none_wrong s k a fine in
    let front = target_wrongs (known_now s) a.name a.target in
    let calls = called_wrongs (known_now s) a in
    let timer = timer_wrongs a.name a.arguments in
    let xs = arguments_wrongs (known_now s) a (needs_of a.name) a.arguments in
    let two = empty_left (front ++ calls) timer (empty_left (front ++ calls ++ timer) xs none) in
    let to = sound_target s k a.name a.target r e (empty_left front calls two) in
    record {
      fine = fine;
      at = comes_to s a.target r e;
      fit = to.0;
      may = to.1;
      called = empty_right front calls two;
      good = empty_right (front ++ calls ++ timer) xs none;
    }

-- Classes

pub fit_here : (s : State) (n : ActionName) (r : ObjRef) → is_transition n ≡ false → admitted_wrongs (known_before s.service (parts_of s)) n None r ≡ [] → object_wrongs (λ c. admits c n) None r (class_at r (parts_of s)) ≡ []
fit_here s n r plain fit =
    subst (λ (b : Bool). object_wrongs (λ c. admits c n) None r (if b && r.number == 0 then (known_before s.service (parts_of s)).group_class r else class_at r (parts_of s)) ≡ []) plain fit

pub admitted_now : {fw : Flow} (s : State) (k : IsSafeBy fw s) (n : ActionName) (r : ObjRef) (o : Object) → object_at r (all s.objects) ≡ Some o → is_transition n ≡ false → admitted_wrongs (known_before s.service (parts_of s)) n None r ≡ [] → admits o.fixed.class n ≡ true
admitted_now {fw} s k n r o e plain fit =
    let hit = fit_object (λ c. admits c n) None r (class_at r (parts_of s)) (fit_here s n r plain fit) in
    subst (λ (c : Class). admits c n ≡ true) (some_same (sym hit.1 ∙ class_now s k r o e)) hit.2

pub plain_change : (n : ActionName) → sort_of n ≡ sort.Change → is_transition n ≡ false
plain_change action.TransitionTo e = absurd cc
plain_change action.Launch e = absurd cc
plain_change _ e = refl

pub plain_widget : (n : ActionName) → sort_of n ≡ sort.Widget → is_transition n ≡ false
plain_widget action.TransitionTo e = absurd cc
plain_widget action.Launch e = absurd cc
plain_widget _ e = refl

pub plain_ask : (n : ActionName) → sort_of n ≡ sort.Ask → is_transition n ≡ false
plain_ask action.TransitionTo e = absurd cc
plain_ask action.Launch e = absurd cc
plain_ask _ e = refl

-- a list is changed by no action that changes bodies alone, and a variable of references by none that works widgets
pub no_list_change : (n : ActionName) (c : Class) → sort_of n ≡ sort.Change → is_list_group c ≡ true → admits c n ≡ true → false ≡ true
no_list_change n class.ListGroup same is ad = by n same ad
  where
    by : (n : ActionName) → sort_of n ≡ sort.Change → admits class.ListGroup n ≡ true → false ≡ true
    by action.Run same ad = absurd cc
    by _ same ad = absurd cc
no_list_change n _ same is ad = absurd cc

pub no_reference_widget : (n : ActionName) (c : Class) → sort_of n ≡ sort.Widget → refers c ≡ true → admits c n ≡ true → false ≡ true
no_reference_widget n class.ObjectRefVar same is ad = by n same ad
  where
    by : (n : ActionName) → sort_of n ≡ sort.Widget → admits class.ObjectRefVar n ≡ true → false ≡ true
    by action.Run same ad = absurd cc
    by _ same ad = absurd cc
no_reference_widget n _ same is ad = absurd cc
