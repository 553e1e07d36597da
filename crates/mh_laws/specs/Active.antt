-- What can come to be done in a configuration: the actions of its active effects, what is wrong with one of
-- them, and where it leads.
use Rattle.std.specs.Prelude.{Bool, true, false, ◌&&◌, ◌==◌, if◌then◌else◌, List, filter, Option, Some, None}
use Rattle.std.specs.List.{flat_map}
use Rattle.std.specs.Option.{option_map_or}
use Rattle.mh_base.specs.declared.obj_ref.ObjRef.{ObjRef}
use Rattle.mh_base.specs.declared.value.Value.{Value}
use Rattle.mh_base.specs.declared.value.Value.TheVariants as value
use Rattle.mh_group.specs.declared.attribute.Attribute.TheVariants as attribute
use Rattle.mh_group.specs.declared.action_name.ActionName.{ActionName}
use Rattle.mh_group.specs.declared.action_name.ActionName.TheVariants as action
use Rattle.mh_group.specs.Table.{is_link, is_scene, is_application, is_visible}
use Rattle.mh_model.specs.declared.act.Act.{Act}
use Rattle.mh_model.specs.declared.config.Config.{Config}
use Rattle.mh_model.specs.declared.object.member.Member.{Member}
use Rattle.mh_model.specs.declared.object.Fixed.{Fixed}
use Rattle.mh_model.specs.Property.{held, as_value}
use Rattle.mh_model.specs.Service.{Service, part_at}
use Rattle.mh_model.specs.Faults.{Wrong, object_wrongs}
use Rattle.mh_model.specs.Known.{Known, class_at, known_before}
use Rattle.mh_model.specs.Effects.{actions}
use Rattle.mh_model.specs.Configuration.{is_group_of}

-- the source of a link is among the objects
abbrev pub has_source : List Fixed → Option Value → Bool
has_source ps (Some (value.Object r)) = option_map_or (λ p. true) (part_at r ps) false
has_source ps _ = false

-- the effect of a link is active where its source is present; those of a group always are
abbrev pub is_active : List Fixed → Fixed → Bool
is_active ps p = if is_link p.class then has_source ps (as_value (held attribute.EventSource p.properties)) else true

-- the actions of all active effects where these are present
abbrev pub active_actions : List Fixed → List Act
active_actions ps = flat_map actions (filter (is_active ps) ps)

-- what is known where these are present and variables refer to these
abbrev pub known_with : Service → List Fixed → (ObjRef → List ObjRef) → Known
known_with s ps h = record (known_before s ps) { refers = h }

-- Members. What a group of objects runs and halts is there, and a visible.

abbrev pub member_wrongs : List Fixed → Member → List Wrong
member_wrongs ps m = object_wrongs is_visible None m.object (class_at m.object ps)

-- an item that this list may have
abbrev pub item_wrongs : List Fixed → ObjRef → ObjRef → List Wrong
item_wrongs ps list q = object_wrongs is_visible (Some list) q (class_at q ps)

-- The configuration to which an action leads: to a scene, under the same application, or to an application,
-- with no scene.

abbrev pub leads_to : Service → Config → ActionName → ObjRef → Option Config
leads_to s c action.TransitionTo r =
    if r.number == 0 && is_group_of is_scene s r.group then Some (record c { scene = Some r.group }) else None
leads_to s c action.Launch r =
    if r.number == 0 && is_group_of is_application s r.group then Some (record { app = r.group; scene = None })
    else None
leads_to s c _ r = None
