-- What comes of a test of the variable that was found.
use Rattle.std.specs.Prelude.{◌≡◌, ℕ, Bool, false, ◌&&◌, List, [], ◌∷◌, ◌++◌, drop, Option, Some, None, ℤ}
use Rattle.std.specs.Option.{option_map_or}
use Rattle.mh_base.specs.declared.obj_ref.ObjRef.{ObjRef}
use Rattle.mh_base.specs.declared.value.Value.{Value}
use Rattle.mh_base.specs.declared.value.Value.TheVariants as value
use Rattle.mh_group.specs.declared.action_name.ActionName.TheVariants as action
use Rattle.mh_group.specs.declared.class.Class.{Class}
use Rattle.mh_model.specs.declared.act.Act.{Act}
use Rattle.mh_model.specs.declared.act.Argument.TheVariants as argument
use Rattle.mh_model.specs.State.{State}
use Rattle.mh_model.specs.Variables.{is_operator, kind_of, same_kind, variable_kind}
use Rattle.mh_work.specs.declared.put.Put.{Put}
use Rattle.mh_work.specs.Listed.{listed}
use Rattle.mh_machine.specs.ByClass.{direct}
use Rattle.mh_machine.specs.Plans.{taken_from}
use Rattle.mh_machine.specs.Rest.{Does}

-- a test that is written with its target and its value
abbrev pub test_act : ObjRef → ℤ → Value → Act
test_act r n v = direct action.TestVariable r (argument.Direct (value.Int n) ∷ argument.Direct v ∷ [])

-- a variable of the class holds values of this one's kind, and has the operator
abbrev pub is_tested : Class → ℤ → Value → Bool
is_tested c n v = option_map_or (λ k. same_kind k (kind_of v) && is_operator k n) (variable_kind c) false

-- the first item is a test that puts this, if it is one of a variable that is there and can be tested so
abbrev pub IsFirstTest : State → Option Put → Type 0
IsFirstTest s None = Unit {0}
IsFirstTest s (Some put) = Does s (record (taken_from s) { work = listed put ++ drop 1 s.work })
