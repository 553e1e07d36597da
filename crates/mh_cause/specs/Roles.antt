-- Where in an action a reference is written.
use Rattle.std.specs.Prelude.{ℕ, ◌-◌, Bool, false, if◌then◌else◌, List, [], ◌∷◌, length, Option, Some, None}
use Rattle.mh_base.specs.declared.obj_ref.ObjRef.{ObjRef}
use Rattle.mh_base.specs.declared.value.Value.{Value}
use Rattle.mh_base.specs.declared.value.Value.TheVariants as value
use Rattle.mh_model.specs.declared.act.Act.{Act}
use Rattle.mh_model.specs.declared.act.Argument.{Argument}
use Rattle.mh_model.specs.declared.act.Argument.TheVariants as argument
use Rattle.mh_model.specs.declared.act.Target.{Target}
use Rattle.mh_model.specs.declared.act.Target.TheVariants as target
use Rattle.mh_model.specs.Reference.{same_ref}
use Rattle.mh_model.specs.Service.{Service}
use Rattle.mh_cause.specs.declared.role.Role.{Role}
use Rattle.mh_cause.specs.declared.role.Role.TheVariants as role
use Rattle.mh_cause.specs.Acts.{act_of}
use Rattle.mh_cause.specs.Refusing.{Refused}

abbrev pub value_names : ObjRef → Value → Bool
value_names at (value.Object r) = same_ref r at
value_names at v = false

abbrev pub names : ObjRef → Argument → Bool
names at (argument.Direct v) = value_names at v
names at (argument.Through r k) = same_ref r at
names at (argument.Receiver r) = same_ref r at

-- the first of these last parameters that names the object, by its number among so many
abbrev pub parameter_in : ℕ → ObjRef → List Argument → Role
parameter_in size at [] = role.Unknown
parameter_in size at (x ∷ xs) = if names at x then role.Parameter (size - length xs) else parameter_in size at xs

abbrev pub target_role : ObjRef → Role → Target → Role
target_role at other (target.Direct r) = if same_ref r at then role.Target else other
target_role at other (target.Through r) = if same_ref r at then role.Through else other

unfoldable pub role_in : ObjRef → Act → Role
role_in at act = target_role at (parameter_in (length act.arguments) at act.arguments) act.target

abbrev pub role_of : ObjRef → Option Act → Role
role_of at None = role.Unknown
role_of at (Some act) = role_in at act

-- where the refusal's action names the object
unfoldable pub role_at : Service → Refused → ObjRef → Role
role_at s r at = role_of at (act_of s r)
