-- The values of an action's arguments, when it is done, and the variables that receive its answers.
use Rattle.std.specs.Prelude.{List, Option, Some, None}
use Rattle.std.specs.List.{filter_map}
use Rattle.mh_base.specs.declared.obj_ref.ObjRef.{ObjRef}
use Rattle.mh_base.specs.declared.value.Value.{Value}
use Rattle.mh_model.specs.declared.act.Argument.{Argument}
use Rattle.mh_model.specs.declared.act.Argument.TheVariants as argument
use Rattle.mh_model.specs.declared.act.Target.{Target}
use Rattle.mh_model.specs.declared.act.Target.TheVariants as target
use Rattle.mh_model.specs.declared.object.Object.{Object}
use Rattle.mh_model.specs.Property.{value_held, as_reference}
use Rattle.mh_model.specs.Service.{object_at}

-- what the variable at the reference holds
abbrev pub held_by : Option Object → Option Value
held_by None = None
held_by (Some o) = value_held o.fixed o.body

abbrev pub value_in : List Object → Argument → Option Value
value_in os (argument.Direct v) = Some v
value_in os (argument.Through r k) = held_by (object_at r os)
value_in os (argument.Receiver r) = None

-- those that come to a value
abbrev pub values : List Object → List Argument → List Value
values os as_written = filter_map (value_in os) as_written

abbrev pub receiver_of : Argument → Option ObjRef
receiver_of (argument.Direct v) = None
receiver_of (argument.Through r k) = None
receiver_of (argument.Receiver r) = Some r

abbrev pub receivers : List Argument → List ObjRef
receivers as_written = filter_map receiver_of as_written

-- the reference to which a target comes, if it comes to one
abbrev pub referred : Target → List Object → Option ObjRef
referred (target.Direct r) os = Some r
referred (target.Through v) os = as_reference (held_by (object_at v os))
