-- Why a configuration is refused, with the place of each refusal: an active action, or a group of objects.
use Rattle.std.specs.Prelude.{◌≡◌, ℕ, true, if◌then◌else◌, List, ◌++◌, map, Option, Some, None}
use Rattle.std.specs.List.{flat_map, Contains}
use Rattle.std.specs.Option.{is_some, option_map, option_to_list}
use Rattle.mh_base.specs.declared.obj_ref.ObjRef.{ObjRef}
use Rattle.mh_group.specs.declared.action_name.ActionName.{ActionName}
use Rattle.mh_group.specs.Table.{is_list_group}
use Rattle.mh_model.specs.declared.config.Config.{Config}
use Rattle.mh_model.specs.declared.object.Fixed.{Fixed}
use Rattle.mh_model.specs.Faults.{Wrong, least, wrongs}
use Rattle.mh_model.specs.Service.{Service}
use Rattle.mh_model.specs.Configuration.{present}
use Rattle.mh_model.specs.Tokens.{members}
use Rattle.mh_laws.specs.Active.{known_with, item_wrongs, member_wrongs}
use Rattle.mh_laws.specs.Acceptable.{IsAcceptable}
use Rattle.mh_laws.specs.Budget.{IsAccepted, six_costs}
use Rattle.mh_laws.specs.Costs.{Costing}
use Rattle.mh_laws.specs.Flow.{Flow, Sets, reached}
use Rattle.mh_laws.specs.Layers.{IsCost}
use Rattle.mh_laws.specs.Least.{IsLeast}
use Rattle.mh_flow.specs.Sites.{Site, sites_of}
use Rattle.mh_layers.specs.declared.bounds.InputKind.{InputKind}
use Rattle.mh_layers.specs.declared.cause.Cause.{Cause}
use Rattle.mh_layers.specs.Bounding.{IsFirstAbove}
use Rattle.mh_layers.specs.Cycle.{AreFirstCycle}
use Rattle.mh_verify.specs.declared.refusal.Found.{Found}
use Rattle.mh_verify.specs.declared.refusal.RefusalKind.{RefusalKind}
use Rattle.mh_verify.specs.Kinds.{kind_of, reason_number}

-- how this is refused
abbrev pub kind_for : Wrong → RefusalKind
kind_for w = kind_of w.reason (is_some w.through)

-- a refusal of the action with this number of an object, or of the object itself with 0 and no action, with which this is
-- wrong
abbrev pub refusal_at : Config → ObjRef → ℕ → Option ActionName → Wrong → Found
refusal_at c key n name w = record {
  kind = kind_for w;
  place = record { group = key.group; object = key.number; index = n };
  action = name;
  object = w.at;
  through = w.through;
  config = c;
}

-- this is wrong with the action at a site
abbrev pub found_at : Config → Site → Wrong → Found
found_at c x w = refusal_at c x.key x.index (Some x.act.name) w

-- the refusal of the action at a site, if there is one: for what comes first, by its number, of all that is wrong
-- with it where these are present and variables and lists have these sets
abbrev pub refused_at : Service → List Fixed → Sets → Config → Site → Option Found
refused_at s ps h c x = option_map (found_at c x) (least reason_number None (wrongs (known_with s ps h) x.act))

abbrev pub wrong_at : Service → List Fixed → Sets → Config → Site → List Found
wrong_at s ps h c x = option_to_list (refused_at s ps h c x)

-- the refusals of the effects that are active
abbrev pub refusals_of_effects : Service → Flow → Config → List Found
refusals_of_effects s w c = flat_map (wrong_at s (present s c) (w.sets c) c) (sites_of (present s c))

-- Members of groups of objects. What is refused of one stands at its group, in front of all actions of it.

abbrev pub found_of_part : Config → ObjRef → Wrong → Found
found_of_part c key w = refusal_at c key 0 None w

-- what is wrong with the members of a group of objects: those of a list are whatever it may have
abbrev pub part_wrongs : List Fixed → Sets → Fixed → List Wrong
part_wrongs ps h p =
    if is_list_group p.class then flat_map (item_wrongs ps p.key) (h p.key)
    else flat_map (member_wrongs ps) (members p)

abbrev pub part_refused : List Fixed → Sets → Config → Fixed → List Found
part_refused ps h c p = map (found_of_part c p.key) (part_wrongs ps h p)

abbrev pub refusals_of_members : Service → Flow → Config → List Found
refusals_of_members s w c = flat_map (part_refused (present s c) (w.sets c) c) (present s c)

-- the refusals of members of groups, and those of effects
abbrev pub refusals_in : Service → Flow → Config → List Found
refusals_in s w c = refusals_of_members s w c ++ refusals_of_effects s w c

-- those of all configurations that are reached
abbrev pub all_refusals : Service → Flow → List Found
all_refusals s w = flat_map (refusals_in s w) w.configs

-- a service with a refusal in a configuration that the least flow reaches is not acceptable
abbrev pub RefusedIsNot : Type 0
RefusedIsNot =
    (s : Service) (w : Flow) (c : Config) (x : Found) → IsLeast s w → reached w c ≡ true → Contains (refusals_in s w c) x →
    IsAcceptable s → ⊥

-- nor is a service accepted whose effects put themselves to work by the least flow
abbrev pub CyclicIsNot : Type 0
CyclicIsNot =
    (s : Service) (w : Flow) (cs : List Cause) → IsLeast s w → AreFirstCycle s w cs → (most : ℕ) → IsAccepted most s → ⊥

-- nor one whose start, or an input, can lead to more than so many steps by the least flow
abbrev pub CostlyIsNot : Type 0
CostlyIsNot =
    (s : Service) (w : Flow) (most : ℕ) (k : InputKind) → IsLeast s w →
    ((cost : Costing) → IsCost s w cost → IsFirstAbove most (six_costs s w cost) k) → IsAccepted most s → ⊥
