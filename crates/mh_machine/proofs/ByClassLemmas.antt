-- What is wrong with an action is told by the class of its target, and a number takes each sum.
use Rattle.std.specs.Prelude.{◌≡◌, ℕ, zero, suc, ◌+◌, ◌<◌, Bool, true, false, ◌&&◌, not, if◌then◌else◌, List, [], ◌∷◌, ◌++◌, drop, slice_get, Option, Some, None, ℤ, refl}
use Rattle.std.specs.List.{list_all}
use Rattle.std.proofs.Common.{ap, ◌∙◌, sym, subst}
use Rattle.mh_base.specs.declared.obj_ref.ObjRef.{ObjRef}
use Rattle.mh_base.specs.declared.value.Value.TheVariants as value
use Rattle.mh_group.specs.declared.class.Class.{Class}
use Rattle.mh_group.specs.declared.class.Class.TheVariants as class
use Rattle.mh_group.specs.declared.action_name.ActionName.{ActionName}
use Rattle.mh_group.specs.declared.action_name.ActionName.TheVariants as action
use Rattle.mh_group.specs.declared.shape.Need.{Need}
use Rattle.mh_group.specs.declared.shape.Need.TheVariants as need
use Rattle.mh_group.specs.Table.{needs_of}
use Rattle.mh_model.specs.declared.act.Act.{Act}
use Rattle.mh_model.specs.declared.act.Argument.{Argument}
use Rattle.mh_model.specs.declared.act.Argument.TheVariants as argument
use Rattle.mh_model.specs.declared.act.Target.TheVariants as target
use Rattle.mh_model.specs.declared.fault.Fault.{Fault}
use Rattle.mh_model.specs.declared.item.Item.{Item}
use Rattle.mh_model.specs.declared.item.Item.TheVariants as item
use Rattle.mh_model.specs.Bodies.{changed_by}
use Rattle.mh_model.specs.Faults.{Wrong, argument_wrongs, arguments_wrongs, needs_behind, fault_known, fault_by, least, machine_rank, is_call, is_transition, called_wrongs, call_wrongs, target_wrongs, admitted_wrongs, object_wrongs, timer_wrongs, targets, wrongs}
use Rattle.mh_model.specs.Known.{Known, class_at, known_in}
use Rattle.mh_model.specs.Rules.{changed}
use Rattle.mh_model.specs.Service.{parts}
use Rattle.mh_model.specs.State.{State, Objects, all}
use Rattle.mh_model.specs.Step.{step, step_by, did, done}
use Rattle.mh_model.specs.Stuck.{stuck}
use Rattle.mh_machine.specs.ByClass.{known_as, is_plain_value, is_plain, direct, JudgedByClass, is_sum, sum_act}

first : (a b : Bool) → (a && b) ≡ true → a ≡ true
first true b e = refl
first false b e = absurd cc

second : (a b : Bool) → (a && b) ≡ true → b ≡ true
second true b e = e
second false b e = absurd cc

negated : (b : Bool) → not b ≡ true → b ≡ false
negated true e = absurd cc
negated false e = refl

-- a plain value is judged alike
same_argument : (k : Known) (n : ActionName) (r : ObjRef) (xs : List Argument) (d : Need) (x : Argument) → is_plain_value x ≡ true
    → argument_wrongs k (direct n r xs) d x ≡ argument_wrongs (known_as (k.class_of r)) (direct n r xs) d x
same_argument k n r xs need.Typed (argument.Direct v) e = refl
same_argument k n r xs d (argument.Direct (value.Object q)) e = absurd cc
same_argument k n r xs _ (argument.Direct (value.Int m)) e = refl
same_argument k n r xs _ (argument.Direct (value.Bool b)) e = refl
same_argument k n r xs _ (argument.Direct (value.Octets os)) e = refl
same_argument k n r xs _ (argument.Direct (value.Content c)) e = refl
same_argument k n r xs d (argument.Through v t) e = absurd cc
same_argument k n r xs d (argument.Receiver v) e = absurd cc

same_arguments : (k : Known) (n : ActionName) (r : ObjRef) (ys : List Argument) (ds : List Need) (xs : List Argument) → list_all is_plain_value xs ≡ true
    → arguments_wrongs k (direct n r ys) ds xs ≡ arguments_wrongs (known_as (k.class_of r)) (direct n r ys) ds xs
same_arguments k n r ys [] xs e = refl
same_arguments k n r ys (d ∷ ds) [] e = refl
same_arguments k n r ys (d ∷ ds) (x ∷ xs) e =
    let here = same_argument k n r ys d x (first (is_plain_value x) (list_all is_plain_value xs) e) in
    let behind = same_arguments k n r ys (needs_behind d ds) xs (second (is_plain_value x) (list_all is_plain_value xs) e) in
    λ i. here i ++ behind i

pub by_class : JudgedByClass
by_class k n r xs e =
    let no_call : is_call n ≡ false = negated (is_call n) (first (not (is_call n)) _ (first (not (is_call n) && not (is_transition n)) (list_all is_plain_value xs) e)) in
    let no_way : is_transition n ≡ false = negated (is_transition n) (second (not (is_call n)) _ (first (not (is_call n) && not (is_transition n)) (list_all is_plain_value xs) e)) in
    let a = direct n r xs in
    let aimed : target_wrongs k n a.target ≡ target_wrongs (known_as (k.class_of r)) n a.target = rw no_way refl in
    let called : called_wrongs k a ≡ called_wrongs (known_as (k.class_of r)) a = rw no_call refl in
    let given = same_arguments k n r xs (needs_of n) xs (second (not (is_call n) && not (is_transition n)) (list_all is_plain_value xs) e) in
    λ i. fault_by n (least machine_rank None (aimed i ++ called i ++ timer_wrongs n xs ++ given i))

-- a number takes each sum
pub unstuck : (n : ActionName) (r : ObjRef) (m : ℤ) → is_sum n ≡ true → fault_known (known_as (Some class.IntegerVar)) (sum_act n r m) ≡ None
unstuck action.Add r m e = refl
unstuck action.Subtract r m e = refl
unstuck action.Multiply r m e = refl
unstuck action.Divide r m e = refl
unstuck action.Modulo r m e = refl
unstuck _ r m e = absurd cc

pub plain_sum : (n : ActionName) (m : ℤ) → is_sum n ≡ true → is_plain n (argument.Direct (value.Int m) ∷ []) ≡ true
plain_sum action.Add m e = refl
plain_sum action.Subtract m e = refl
plain_sum action.Multiply m e = refl
plain_sum action.Divide m e = refl
plain_sum action.Modulo m e = refl
plain_sum _ m e = absurd cc

pub done_sum : (s : State) (n : ActionName) (r : ObjRef) (m : ℤ) → is_sum n ≡ true
    → done (item.Act (sum_act n r m)) s ≡ record s { objects = changed (changed_by n (value.Int m ∷ [])) r s.objects; work = drop 1 s.work; taken = s.taken + 1 }
done_sum s action.Add r m e = refl
done_sum s action.Subtract r m e = refl
done_sum s action.Multiply r m e = refl
done_sum s action.Divide r m e = refl
done_sum s action.Modulo r m e = refl
done_sum s _ r m e = absurd cc
