-- A test of a variable that was found, and steps by which the first item is done.
use Rattle.std.specs.Prelude.{◌≡◌, ◌+◌, Bool, true, false, ◌&&◌, if◌then◌else◌, List, [], ◌∷◌, ◌++◌, drop, slice_get, Option, Some, None, ℤ, refl}
use Rattle.std.proofs.Common.{ap, ◌∙◌, sym}
use Rattle.mh_base.specs.declared.obj_ref.ObjRef.{ObjRef}
use Rattle.mh_base.specs.declared.value.Value.{Value}
use Rattle.mh_base.specs.declared.value.Value.TheVariants as value
use Rattle.mh_base.specs.declared.value.Kind.TheVariants as kind
use Rattle.mh_group.specs.declared.action_name.ActionName.TheVariants as action
use Rattle.mh_group.specs.declared.class.Class.{Class}
use Rattle.mh_group.specs.declared.class.Class.TheVariants as class
use Rattle.mh_model.specs.declared.act.Act.{Act}
use Rattle.mh_model.specs.declared.fault.Fault.{Fault}
use Rattle.mh_model.specs.declared.item.Item.{Item}
use Rattle.mh_model.specs.declared.item.Item.TheVariants as item
use Rattle.mh_model.specs.declared.object.Object.{Object}
use Rattle.mh_model.specs.Faults.{fault_known}
use Rattle.mh_model.specs.Known.{Known, known_in}
use Rattle.mh_model.specs.Property.{value_held}
use Rattle.mh_model.specs.Saying.{put_items_at, tested}
use Rattle.mh_model.specs.Service.{object_at}
use Rattle.mh_model.specs.State.{State, all}
use Rattle.mh_model.specs.Step.{did, done, step}
use Rattle.mh_model.specs.Stuck.{stuck}
use Rattle.mh_model.specs.Variables.{is_operator, kind_of, operator_of, same_kind}
use Rattle.mh_work.specs.declared.put.Put.{Put}
use Rattle.mh_work.specs.Listed.{listed}
use Rattle.mh_machine.specs.Plans.{taken_from}
use Rattle.mh_machine.specs.Rest.{Does, IsMade, answer_of, judged}
use Rattle.mh_machine.specs.Tests.{IsFirstTest, is_tested, test_act}
use Rattle.mh_machine.proofs.SumLemmas.{class_found}

first : (a b : Bool) → (a && b) ≡ true → a ≡ true
first true b e = refl
first false b e = absurd cc

second : (a b : Bool) → (a && b) ≡ true → b ≡ true
second true b e = e
second false b e = absurd cc

-- what the first item does is the step
pub made : (s t : State) → s.ended ≡ false → Does s t → IsMade s t
made s t runs (i, (there, (fine, is))) =
    let opened : step s ≡ did (stuck i s) i s = rw (runs, there) refl in
    let told : answer_of s ≡ judged (stuck i s) = rw (runs, there) refl in
    (sym is ∙ sym (ap (λ (f : Option Fault). did f i s) fine) ∙ sym opened, sym (ap judged fine) ∙ sym told)

-- where the variable is there and can be tested so, nothing is wrong
fits : (k : Known) (r : ObjRef) (n : ℤ) (v : Value) (c : Class) → k.class_of r ≡ Some c → is_tested c n v ≡ true → fault_known k (test_act r n v) ≡ None
fits k r n v class.BooleanVar there is =
    let alike : same_kind kind.Bool (kind_of v) ≡ true = first (same_kind kind.Bool (kind_of v)) (is_operator kind.Bool n) is in
    let has : is_operator kind.Bool n ≡ true = second (same_kind kind.Bool (kind_of v)) (is_operator kind.Bool n) is in
    rw (there, has, alike) refl
fits k r n v class.IntegerVar there is =
    let alike : same_kind kind.Int (kind_of v) ≡ true = first (same_kind kind.Int (kind_of v)) (is_operator kind.Int n) is in
    let has : is_operator kind.Int n ≡ true = second (same_kind kind.Int (kind_of v)) (is_operator kind.Int n) is in
    rw (there, has, alike) refl
fits k r n v class.OStringVar there is =
    let alike : same_kind kind.Octets (kind_of v) ≡ true = first (same_kind kind.Octets (kind_of v)) (is_operator kind.Octets n) is in
    let has : is_operator kind.Octets n ≡ true = second (same_kind kind.Octets (kind_of v)) (is_operator kind.Octets n) is in
    rw (there, has, alike) refl
fits k r n v class.ObjectRefVar there is =
    let alike : same_kind kind.Object (kind_of v) ≡ true = first (same_kind kind.Object (kind_of v)) (is_operator kind.Object n) is in
    let has : is_operator kind.Object n ≡ true = second (same_kind kind.Object (kind_of v)) (is_operator kind.Object n) is in
    rw (there, has, alike) refl
fits k r n v class.ContentRefVar there is =
    let alike : same_kind kind.Content (kind_of v) ≡ true = first (same_kind kind.Content (kind_of v)) (is_operator kind.Content n) is in
    let has : is_operator kind.Content n ≡ true = second (same_kind kind.Content (kind_of v)) (is_operator kind.Content n) is in
    rw (there, has, alike) refl
fits k r n v _ there is = absurd cc

-- what the test of it puts
pub puts : (s : State) (a : Act) (r : ObjRef) (n : ℤ) (v : Value) (o : Object) (put : Put) → slice_get s.work 0 ≡ Some (item.Act a) → a ≡ test_act r n v
    → Some o ≡ object_at r (all s.objects) → is_tested o.fixed.class n v ≡ true → listed put ≡ tested r (operator_of n) (value_held o.fixed o.body) v
    → IsFirstTest s (Some put)
puts s a r n v o put first same found is says =
    let vs : List Value = value.Int n ∷ v ∷ [] in
    let fine : stuck (item.Act (test_act r n v)) s ≡ None = fits (known_in s.service (all s.objects)) r n v o.fixed.class (class_found r (all s.objects) o found) is in
    let here : done (item.Act (test_act r n v)) s ≡ record (taken_from s) { work = put_items_at action.TestVariable vs r (Some o) ++ drop 1 s.work } =
    ap (λ (m : Option Object). record (taken_from s) { work = put_items_at action.TestVariable vs r m ++ drop 1 s.work }) (sym found) in
    let as_put : done (item.Act (test_act r n v)) s ≡ record (taken_from s) { work = listed put ++ drop 1 s.work } =
    here ∙ ap (λ (is : List Item). record (taken_from s) { work = is ++ drop 1 s.work }) (sym says) in
    (item.Act (test_act r n v), (first ∙ ap (λ (x : Act). Some (item.Act x)) same, (fine, as_put)))
