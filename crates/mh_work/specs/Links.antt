-- Links by what they wait for.
use Rattle.std.specs.Prelude.{◌≡◌, ℕ, suc, Bool, ◌&&◌, if◌then◌else◌, List, [], ◌∷◌, ◌++◌, Option, Some, None, slice_get}
use Rattle.std.specs.List.{flat_map}
use Rattle.std.specs.Option.{option_map_or}
use Rattle.mh_base.specs.Event.{number_of}
use Rattle.mh_base.specs.declared.event.EventType.{EventType}
use Rattle.mh_base.specs.declared.obj_ref.ObjRef.{ObjRef}
use Rattle.mh_group.specs.declared.attribute.Attribute.TheVariants as attribute
use Rattle.mh_group.specs.Table.{is_link}
use Rattle.mh_model.specs.declared.event.Event.{Event}
use Rattle.mh_model.specs.declared.item.Item.{Item}
use Rattle.mh_model.specs.declared.object.Fixed.{Fixed}
use Rattle.mh_model.specs.declared.object.Object.{Object}
use Rattle.mh_model.specs.Items.{hears_type, hears_source, hears_data, acts}
use Rattle.mh_model.specs.Property.{as_reference, held, as_value, as_event, as_effect}
use Rattle.mh_work.specs.Listening.{Index, place_in, waiting}
use Rattle.mh_work.specs.declared.bucket.Listener.{Listener}

-- the object whose events a link waits for
abbrev pub source_of : Fixed → Option ObjRef
source_of p = if is_link p.class then as_reference (as_value (held attribute.EventSource p.properties)) else None

-- a link as the index knows it, at this place
abbrev pub listener_at : ℕ → Option ObjRef → Option EventType → Option Listener
listener_at here (Some source) (Some kind) = Some (record { source = source.number; kind = number_of kind; place = here })
listener_at here _ _ = None

-- what is no link, and a link without a type, waits for nothing
abbrev pub listener_of : ℕ → Fixed → Option Listener
listener_of here p = listener_at here (source_of p) (as_event (held attribute.EventType p.properties))

-- this place, if its part is a link that waits for events of type t from an object of number n, in whichever group
abbrev pub place_of : ℕ → ℕ → ℕ → Fixed → List ℕ
place_of here n t p = option_map_or (place_in n t) (listener_of here p) []

-- the places, counted from here, of the links that do
abbrev pub places : ℕ → ℕ → ℕ → List Fixed → List ℕ
places here n t [] = []
places here n t (p ∷ ps) = place_of here n t p ++ places (suc here) n t ps

-- the index holds for each number and each type the places of all links that wait for that type from an object of
-- that number, in order
unfoldable pub IsIndex : Index → List Fixed → Type 0
IsIndex buckets ps = (n t : ℕ) → waiting n t buckets ≡ places 0 n t ps

-- A link that waits for the event's type from an object of the right number is asked for the rest: whether it runs, and
-- waits for the event's source and data.
abbrev pub fires : Event → Object → Bool
fires e o =
    o.body.running && hears_type (as_event (held attribute.EventType o.fixed.properties)) e.kind
    && hears_source (as_value (held attribute.EventSource o.fixed.properties)) e.source
    && hears_data (as_value (held attribute.EventData o.fixed.properties)) e.data

-- what it then puts
abbrev pub answer : Event → Object → List Item
answer e o = if fires e o then acts (as_effect (held attribute.LinkEffect o.fixed.properties)) else []

abbrev pub answer_at : Event → List Object → ℕ → List Item
answer_at e os n = option_map_or (answer e) (slice_get os n) []

-- what the links at these places put
abbrev pub answers : Event → List Object → List ℕ → List Item
answers e os ns = flat_map (answer_at e os) ns
