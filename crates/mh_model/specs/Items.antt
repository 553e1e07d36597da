-- What an event puts: the actions of the links that hear it.
use Rattle.std.specs.Prelude.{Bool, true, false, ◌&&◌, ◌==◌, if◌then◌else◌, List, [], ◌∷◌, ◌++◌, map, Option, Some, None}
use Rattle.mh_base.specs.declared.obj_ref.ObjRef.{ObjRef}
use Rattle.mh_base.specs.declared.value.Value.{Value}
use Rattle.mh_base.specs.declared.value.Value.TheVariants as value
use Rattle.mh_base.specs.declared.event.EventType.{EventType}
use Rattle.mh_base.specs.Event.{number_of}
use Rattle.mh_group.specs.declared.attribute.Attribute.TheVariants as attribute
use Rattle.mh_group.specs.Table.{is_link}
use Rattle.mh_model.specs.declared.act.Act.{Act}
use Rattle.mh_model.specs.declared.event.Event.{Event}
use Rattle.mh_model.specs.declared.item.Item.{Item}
use Rattle.mh_model.specs.declared.item.Item.TheVariants as item
use Rattle.mh_model.specs.declared.object.Object.{Object}
use Rattle.mh_model.specs.Variables.{same_value}
use Rattle.mh_model.specs.Property.{held, as_value, as_event, as_effect}
use Rattle.mh_model.specs.Reference.{same_ref}

-- a link without data hears every event, one with data only those with the same
abbrev pub hears_data : Option Value → Option Value → Bool
hears_data None _ = true
hears_data (Some d) (Some e) = same_value d e
hears_data (Some d) None = false

abbrev pub hears_source : Option Value → ObjRef → Bool
hears_source (Some (value.Object r)) source = same_ref r source
hears_source _ source = false

abbrev pub hears_type : Option EventType → EventType → Bool
hears_type (Some t) kind = number_of t == number_of kind
hears_type None kind = false

-- a link matches an event when it runs, and its source, type and data are the event's
abbrev pub matches : Event → Object → Bool
matches e o =
    is_link o.fixed.class && o.body.running && hears_source (as_value (held attribute.EventSource o.fixed.properties)) e.source
    && hears_type (as_event (held attribute.EventType o.fixed.properties)) e.kind
    && hears_data (as_value (held attribute.EventData o.fixed.properties)) e.data

-- the actions of an effect, as items
abbrev pub acts : List Act → List Item
acts as_written = map item.Act as_written

-- the actions of the effects of all links that match, in the order of the objects
abbrev pub heard : Event → List Object → List Item
heard e [] = []
heard e (o ∷ os) = (if matches e o then acts (as_effect (held attribute.LinkEffect o.fixed.properties)) else []) ++ heard e os

-- an event without data
abbrev pub plain_event : ObjRef → EventType → Item
plain_event source kind = item.Emit (record { source = source; kind = kind; «data» = None })
