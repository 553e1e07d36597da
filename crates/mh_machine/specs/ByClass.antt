-- Judging an action by the class of the object that was found: where nothing else is written that has to be looked for, nothing
-- else says what is wrong.
use Rattle.std.specs.Prelude.{◌≡◌, ℕ, zero, suc, ◌+◌, ◌<◌, Bool, true, false, ◌&&◌, not, List, [], ◌∷◌, ◌++◌, drop, slice_get, Option, Some, None, ℤ}
use Rattle.std.specs.List.{list_all}
use Rattle.mh_base.specs.declared.obj_ref.ObjRef.{ObjRef}
use Rattle.mh_base.specs.declared.value.Value.TheVariants as value
use Rattle.mh_group.specs.declared.class.Class.{Class}
use Rattle.mh_group.specs.declared.class.Class.TheVariants as class
use Rattle.mh_group.specs.declared.action_name.ActionName.{ActionName}
use Rattle.mh_group.specs.declared.action_name.ActionName.TheVariants as action
use Rattle.mh_model.specs.declared.act.Act.{Act}
use Rattle.mh_model.specs.declared.act.Argument.{Argument}
use Rattle.mh_model.specs.declared.act.Argument.TheVariants as argument
use Rattle.mh_model.specs.declared.act.Target.TheVariants as target
use Rattle.mh_model.specs.declared.fault.Fault.{Fault}
use Rattle.mh_model.specs.declared.item.Item.TheVariants as item
use Rattle.mh_model.specs.Bodies.{changed_by}
use Rattle.mh_model.specs.Faults.{fault_known, is_call, is_transition}
use Rattle.mh_model.specs.Known.{Known, class_at, known_in}
use Rattle.mh_model.specs.Rules.{changed}
use Rattle.mh_model.specs.Service.{parts}
use Rattle.mh_model.specs.State.{State, Objects, all}
use Rattle.mh_model.specs.Step.{step}

-- all that is known is the class of one object
abbrev pub known_as : Option Class → Known
known_as c = record { class_of = λ r. c; group_class = λ r. None; refers = λ v. []; number = λ v. None; takes = λ r. None }

-- a value that is written, and is no reference
abbrev pub is_plain_value : Argument → Bool
is_plain_value (argument.Direct (value.Bool b)) = true
is_plain_value (argument.Direct (value.Int n)) = true
is_plain_value (argument.Direct (value.Octets os)) = true
is_plain_value (argument.Direct (value.Content n)) = true
is_plain_value _ = false

-- its target alone says what is wrong with the action
abbrev pub is_plain : ActionName → List Argument → Bool
is_plain n xs = not (is_call n) && not (is_transition n) && list_all is_plain_value xs

abbrev pub direct : ActionName → ObjRef → List Argument → Act
direct n r xs = record { name = n; target = target.Direct r; arguments = xs }

abbrev pub JudgedByClass : Type 0
JudgedByClass = (k : Known) (n : ActionName) (r : ObjRef) (xs : List Argument) → is_plain n xs ≡ true
    → fault_known k (direct n r xs) ≡ fault_known (known_as (k.class_of r)) (direct n r xs)

-- sums
abbrev pub is_sum : ActionName → Bool
is_sum action.Add = true
is_sum action.Subtract = true
is_sum action.Multiply = true
is_sum action.Divide = true
is_sum action.Modulo = true
is_sum _ = false

abbrev pub sum_act : ActionName → ObjRef → ℤ → Act
sum_act n r m = direct n r (argument.Direct (value.Int m) ∷ [])
