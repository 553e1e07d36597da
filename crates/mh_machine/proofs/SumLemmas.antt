-- A sum of a number that was found.
use Rattle.std.specs.Prelude.{◌≡◌, ◌+◌, Bool, true, false, List, [], ◌∷◌, drop, slice_get, Option, Some, None, ℤ, refl}
use Rattle.std.specs.Option.{option_map}
use Rattle.std.proofs.Common.{ap, ◌∙◌, sym, subst}
use Rattle.mh_base.specs.declared.obj_ref.ObjRef.{ObjRef}
use Rattle.mh_base.specs.declared.value.Value.{Value}
use Rattle.mh_base.specs.declared.value.Value.TheVariants as value
use Rattle.mh_group.specs.declared.action_name.ActionName.{ActionName}
use Rattle.mh_group.specs.declared.class.Class.{Class}
use Rattle.mh_group.specs.declared.class.Class.TheVariants as class
use Rattle.mh_model.specs.declared.act.Act.{Act}
use Rattle.mh_model.specs.declared.act.Argument.{Argument}
use Rattle.mh_model.specs.declared.act.Argument.TheVariants as argument
use Rattle.mh_model.specs.declared.act.Target.{Target}
use Rattle.mh_model.specs.declared.act.Target.TheVariants as target
use Rattle.mh_model.specs.declared.fault.Fault.{Fault}
use Rattle.mh_model.specs.declared.item.Item.TheVariants as item
use Rattle.mh_model.specs.declared.object.Fixed.{Fixed}
use Rattle.mh_model.specs.declared.object.Object.{Object}
use Rattle.mh_model.specs.Bodies.{changed_by, given}
use Rattle.mh_model.specs.Faults.{fault_known}
use Rattle.mh_model.specs.Known.{class_at, known_in}
use Rattle.mh_model.specs.Rules.{changed}
use Rattle.mh_model.specs.Service.{object_at, part_at, parts}
use Rattle.mh_model.specs.State.{State, Objects, all}
use Rattle.mh_model.specs.Step.{done}
use Rattle.mh_model.specs.Stuck.{stuck}
use Rattle.mh_model.proofs.PartLemmas.{part_at-parts}
use Rattle.mh_machine.specs.declared.stepping.summing.Sum.{Sum}
use Rattle.mh_machine.specs.declared.stepping.summing.Sum.TheVariants as sum
use Rattle.mh_machine.specs.Plans.{taken_from}
use Rattle.mh_machine.specs.Rest.{Does}
use Rattle.mh_machine.specs.Sums.{Becomes, IsNumber, IsSum, NumberIf}
use Rattle.mh_machine.specs.ByClass.{known_as, is_sum, sum_act}
use Rattle.mh_machine.proofs.ChangeLemmas.{agreeing, makes_edit}
use Rattle.mh_machine.proofs.ByClassLemmas.{by_class, done_sum, plain_sum, unstuck}

-- the class of what is found
pub class_found : (r : ObjRef) (os : List Object) (o : Object) → Some o ≡ object_at r os → class_at r (parts os) ≡ Some o.fixed.class
class_found r os o e = ap (option_map (λ (p : Fixed). p.class)) (part_at-parts r os ∙ ap (option_map (λ (x : Object). x.fixed)) (sym e))

fine : (s : State) (n : ActionName) (r : ObjRef) (m : ℤ) (o : Object) → Some o ≡ object_at r (all s.objects) → IsNumber n o → stuck (item.Act (sum_act n r m)) s ≡ None
fine s n r m o found is =
    by_class (known_in s.service (all s.objects)) n r (argument.Direct (value.Int m) ∷ []) (plain_sum n m is.sums)
    ∙ ap (λ (c : Option Class). fault_known (known_as c) (sum_act n r m)) (class_found r (all s.objects) o found ∙ ap (λ (c : Class). Some c) is.number)
    ∙ unstuck n r m is.sums

stays_done : (s : State) (n : ActionName) (r : ObjRef) (m : ℤ) (o : Object) → Some o ≡ object_at r (all s.objects) → IsNumber n o → changed_by n (value.Int m ∷ []) o.fixed o.body ≡ o.body
    → taken_from s ≡ done (item.Act (sum_act n r m)) s
stays_done s n r m o found is same =
    ap (λ (os : Objects). record (taken_from s) { objects = os }) (makes_edit (changed_by n (value.Int m ∷ [])) r o None (sym same) s.objects found)
    ∙ sym (done_sum s n r m is.sums)

comes_done : (s : State) (n : ActionName) (r : ObjRef) (m : ℤ) (x : Value) (o : Object) → Some o ≡ object_at r (all s.objects) → IsNumber n o → changed_by n (value.Int m ∷ []) o.fixed o.body ≡ given x o.body
    → record (taken_from s) { objects = changed (λ p b. given x b) r s.objects } ≡ done (item.Act (sum_act n r m)) s
comes_done s n r m x o found is made =
    ap (λ (os : Objects). record (taken_from s) { objects = os }) (agreeing (changed_by n (value.Int m ∷ [])) (λ p b. given x b) r s.objects o found (sym made))
    ∙ sym (done_sum s n r m is.sums)

-- what becomes of the state where the first item is a sum that stays, or comes

pub stays : (s : State) (a : Act) (n : ActionName) (r : ObjRef) (m : ℤ) (found : Option Object) → slice_get s.work 0 ≡ Some (item.Act a) → a ≡ sum_act n r m → found ≡ object_at r (all s.objects)
    → IsSum n m found sum.Stays → Does s (taken_from s)
stays s a n r m None first same there is = absurd cc
stays s a n r m (Some o) first same there is = (
  item.Act (sum_act n r m),
  (first ∙ ap (λ (b : Act). Some (item.Act b)) same, (fine s n r m o there is.0, sym (stays_done s n r m o there is.0 is.1))),
)

pub comes : (s : State) (a : Act) (n : ActionName) (r : ObjRef) (m : ℤ) (x : Value) (found : Option Object) → slice_get s.work 0 ≡ Some (item.Act a) → a ≡ sum_act n r m → found ≡ object_at r (all s.objects)
    → IsSum n m found (sum.Comes x) → Does s (record (taken_from s) { objects = changed (λ p b. given x b) r s.objects })
comes s a n r m x None first same there is = absurd cc
comes s a n r m x (Some o) first same there is = (
  item.Act (sum_act n r m),
  (first ∙ ap (λ (b : Act). Some (item.Act b)) same, (fine s n r m o there is.0, sym (comes_done s n r m x o there is.0 is.1))),
)
