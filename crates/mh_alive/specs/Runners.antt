-- What may run: what is active at first, what an active action can run, what a list may have, and the members of token groups.
use Rattle.std.specs.Prelude.{Bool, if◌then◌else◌, List, [], ◌∷◌, ◌++◌, map}
use Rattle.std.specs.List.{flat_map, list_any}
use Rattle.mh_base.specs.declared.obj_ref.ObjRef.{ObjRef}
use Rattle.mh_group.specs.declared.action_name.ActionName.{ActionName}
use Rattle.mh_group.specs.Table.{is_list_group, is_token_group}
use Rattle.mh_model.specs.declared.act.Act.{Act}
use Rattle.mh_model.specs.declared.config.Config.{Config}
use Rattle.mh_model.specs.declared.object.Fixed.{Fixed}
use Rattle.mh_model.specs.Configuration.{present}
use Rattle.mh_model.specs.Groups.{is_initially_active}
use Rattle.mh_model.specs.Service.{Service}
use Rattle.mh_model.specs.Tokens.{members}
use Rattle.mh_laws.specs.Active.{active_actions}
use Rattle.mh_laws.specs.Describing.{can_put}
use Rattle.mh_laws.specs.Flow.{Flow, Sets}
use Rattle.mh_never.specs.Running.{is_run_piece}
use Rattle.mh_alive.specs.There.{comes_to}

-- an action that can run what it is done to
unfoldable pub can_run : ActionName → Bool
can_run n = list_any is_run_piece (can_put n)

-- what an action can run
abbrev pub run_by : Sets → Act → List ObjRef
run_by h a = if can_run a.name then comes_to h a.target else []

-- an object that is active at first
abbrev pub first_run : Fixed → List ObjRef
first_run p = if is_initially_active p then p.key ∷ [] else []

-- what a list may have
abbrev pub items_run : Sets → Fixed → List ObjRef
items_run h p = if is_list_group p.class then h p.key else []

-- the members of a token group
abbrev pub members_run : Fixed → List ObjRef
members_run p = if is_token_group p.class then map (λ m. m.object) (members p) else []

-- what runs with an object, or by it, though no action runs it
abbrev pub run_with : Sets → Fixed → List ObjRef
run_with h p = first_run p ++ items_run h p ++ members_run p

-- what may run in a configuration where these are present
abbrev pub runners_with : Sets → List Fixed → List ObjRef
runners_with h ps = flat_map (run_with h) ps ++ flat_map (run_by h) (active_actions ps)

abbrev pub runners_in : Service → Flow → Config → List ObjRef
runners_in v w c = runners_with (w.sets c) (present v c)

-- what may run at all
abbrev pub runners : Service → Flow → List ObjRef
runners v w = flat_map (runners_in v w) w.configs
