-- Which registers scenes may have, what is written and what an active action sets; and which keys these let through.
use Rattle.std.specs.Prelude.{Bool, true, false, ◌&&◌, ◌||◌, if◌then◌else◌, List, [], ◌∷◌, ◌++◌, map, Option, Some, None, ℤ, pos}
use Rattle.std.specs.List.{flat_map, list_any}
use Rattle.std.specs.Ordering.{int_eq}
use Rattle.mh_base.specs.declared.obj_ref.ObjRef.{ObjRef}
use Rattle.mh_base.specs.declared.value.Value.{Value}
use Rattle.mh_base.specs.declared.value.Value.TheVariants as value
use Rattle.mh_group.specs.declared.action_name.ActionName.{ActionName}
use Rattle.mh_group.specs.declared.action_name.ActionName.TheVariants as action
use Rattle.mh_group.specs.Table.{is_scene}
use Rattle.mh_model.specs.declared.act.Act.{Act}
use Rattle.mh_model.specs.declared.act.Argument.{Argument}
use Rattle.mh_model.specs.declared.act.Argument.TheVariants as argument
use Rattle.mh_model.specs.declared.config.Config.{Config}
use Rattle.mh_model.specs.declared.key.Key.{Key}
use Rattle.mh_model.specs.declared.object.Fixed.{Fixed}
use Rattle.mh_model.specs.Configuration.{present}
use Rattle.mh_model.specs.Key.{key_number, keys, passes}
use Rattle.mh_model.specs.Reference.{same_key}
use Rattle.mh_model.specs.Service.{Service}
use Rattle.mh_laws.specs.Active.{active_actions}
use Rattle.mh_laws.specs.Flow.{Flow, Sets}
use Rattle.mh_never.specs.Saying.{first_register}
use Rattle.mh_alive.specs.declared.registers.Choice.{Choice}
use Rattle.mh_alive.specs.declared.registers.Register.{Register}
use Rattle.mh_alive.specs.There.{comes_to}

-- the register of a scene: 3, 5, or 4 for all that let every key through

abbrev pub same_register : Register → Register → Bool
same_register a b = same_key a.at b.at && int_eq a.number b.number

abbrev pub plain_register : ℤ → ℤ
plain_register n = if int_eq n (pos 3) then pos 3 else (if int_eq n (pos 5) then pos 5 else pos 4)

abbrev pub register : ObjRef → ℤ → Register
register r n = record { at = r; number = plain_register n }

-- what is written at a scene
abbrev pub written_registers : Fixed → List Register
written_registers p = if is_scene p.class then register p.key (first_register p) ∷ [] else []

abbrev pub sets_register : ActionName → Bool
sets_register action.SetInputRegister = true
sets_register _ = false

-- what the first of these arguments is; 4, which lets all keys through, where it is not written
abbrev pub number_given : List Argument → ℤ
number_given (argument.Direct (value.Int n) ∷ more) = n
number_given _ = pos 4

abbrev pub registers_by : Sets → Act → List Register
registers_by h a = if sets_register a.name then map (λ r. register r (number_given a.arguments)) (comes_to h a.target) else []

-- where these are present
abbrev pub registers_with : Sets → List Fixed → List Register
registers_with h ps = flat_map written_registers ps ++ flat_map (registers_by h) (active_actions ps)

abbrev pub registers_in : Service → Flow → Config → List Register
registers_in v w c = registers_with (w.sets c) (present v c)

abbrev pub registers : Service → Flow → List Register
registers v w = flat_map (registers_in v w) w.configs

abbrev pub has_register : List Register → ObjRef → ℤ → Bool
has_register gs r n = list_any (same_register (record { at = r; number = n })) gs

-- which of them the scene may have
abbrev pub choice_of : List Register → ObjRef → Choice
choice_of gs r = record { all = has_register gs r (pos 4); no_digits = has_register gs r (pos 5); colours = has_register gs r (pos 3) }

-- one of them lets the key through
abbrev pub lets : Choice → Key → Bool
lets c x = c.all || c.no_digits && passes (pos 5) x || c.colours && passes (pos 3) x

unfoldable pub lets_any : Choice → Bool
lets_any c = list_any (lets c) keys

abbrev pub lets_numbered : Choice → ℤ → Key → Bool
lets_numbered c n x = int_eq (key_number x) n && lets c x

unfoldable pub lets_number : Choice → ℤ → Bool
lets_number c n = list_any (lets_numbered c n) keys

-- a key comes of the scene, for a link that names this data
abbrev pub is_let : Choice → Option Value → Bool
is_let c None = lets_any c
is_let c (Some (value.Int n)) = lets_number c n
is_let c (Some v) = false
