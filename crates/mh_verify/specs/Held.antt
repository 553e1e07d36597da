-- The variables through which an action comes to objects, and what may be wrong with an object to which one of them refers.
use Rattle.std.specs.Prelude.{Bool, true, false, List, [], ◌∷◌, ◌++◌}
use Rattle.std.specs.List.{flat_map}
use Rattle.mh_base.specs.declared.obj_ref.ObjRef.{ObjRef}
use Rattle.mh_model.specs.declared.act.Act.{Act}
use Rattle.mh_model.specs.declared.act.Argument.{Argument}
use Rattle.mh_model.specs.declared.act.Argument.TheVariants as argument
use Rattle.mh_model.specs.declared.fault.Reason.{Reason}
use Rattle.mh_model.specs.declared.fault.Reason.TheVariants as reason
use Rattle.mh_flow.specs.Chart.{target_variables}

-- the variable through which an argument is written
abbrev pub argument_variables : Argument → List ObjRef
argument_variables (argument.Direct v) = []
argument_variables (argument.Through v k) = v ∷ []
argument_variables (argument.Receiver v) = []

-- the variables through which an action has its target and its arguments
abbrev pub variables : Act → List ObjRef
variables a = target_variables a.target ++ flat_map argument_variables a.arguments

-- an object is not there, or is not of a class that will do
abbrev pub is_object_reason : Reason → Bool
is_object_reason reason.Absent = true
is_object_reason reason.WrongClass = true
is_object_reason _ = false
