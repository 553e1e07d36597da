-- What a step lets links hear, and what each link that waits for it makes of it.
use Rattle.std.specs.Prelude.{ℕ, Bool, true, false, if◌then◌else◌, List, [], ◌∷◌, ◌++◌, codes, Option, Some, None}
use Rattle.std.specs.Fmt.{signed_decimal}
use Rattle.std.specs.List.{flat_map}
use Rattle.mh_base.specs.declared.obj_ref.ObjRef.{ObjRef}
use Rattle.mh_base.specs.declared.value.Value.{Value}
use Rattle.mh_base.specs.Event.{is_sync}
use Rattle.mh_group.specs.declared.attribute.Attribute.TheVariants as attribute
use Rattle.mh_group.specs.Table.{is_link}
use Rattle.mh_model.specs.declared.event.Event.{Event}
use Rattle.mh_model.specs.declared.input.Input.{Input}
use Rattle.mh_model.specs.declared.input.Input.TheVariants as input
use Rattle.mh_model.specs.declared.input.Waiting.{Waiting}
use Rattle.mh_model.specs.declared.input.Waiting.TheVariants as waiting
use Rattle.mh_model.specs.declared.interaction.Interaction.{Interaction}
use Rattle.mh_model.specs.declared.item.Item.{Item}
use Rattle.mh_model.specs.declared.item.Item.TheVariants as item
use Rattle.mh_model.specs.declared.key.Key.{Key}
use Rattle.mh_model.specs.declared.object.Object.{Object}
use Rattle.mh_model.specs.Items.{hears_data, hears_source, hears_type}
use Rattle.mh_model.specs.Key.{passes}
use Rattle.mh_model.specs.Property.{held, as_value, as_event}
use Rattle.mh_model.specs.Reference.{group_ref}
use Rattle.mh_model.specs.Service.{object_at}
use Rattle.mh_model.specs.State.{State, all}
use Rattle.mh_model.specs.Step.{engine_event, key_event, register_of}
use Rattle.mh_trace.specs.declared.form.Form.{Form}
use Rattle.mh_trace.specs.declared.form.Form.TheVariants as form
use Rattle.mh_trace.specs.Json.{member_text, more_text, plain_text}
use Rattle.mh_trace.specs.Words.{ref_text, truth_text, value_text}

-- a link waits for events of this source and type, if it runs, and with whatever data
abbrev pub waits : Event → Object → Bool
waits e o =
    if is_link o.fixed.class
    then (if hears_source (as_value (held attribute.EventSource o.fixed.properties)) e.source
    then hears_type (as_event (held attribute.EventType o.fixed.properties)) e.kind else false)
    else false

-- the data that it waits for, if any
abbrev pub wanted : Object → Option Value
wanted o = as_value (held attribute.EventData o.fixed.properties)

-- what a link that waits makes of the event: it hears it, or waits for other data, or does not run
unfoldable pub heard_note : ObjRef → List ℕ
heard_note r = codes "; heard by " ++ ref_text r

unfoldable pub unheard_word : List ℕ
unheard_word = codes "; not heard by "

unfoldable pub unheard_note : ObjRef → List ℕ
unheard_note r = unheard_word ++ ref_text r

unfoldable pub stopped_note : ObjRef → List ℕ
stopped_note r = unheard_note r ++ codes ", which does not run"

abbrev pub wanted_text : Option Value → List ℕ
wanted_text None = []
wanted_text (Some v) = value_text v

unfoldable pub unlike_note : ObjRef → Option Value → List ℕ
unlike_note r v = unheard_note r ++ codes ", which waits for " ++ wanted_text v

-- the same as objects of a list

unfoldable pub link_json : ObjRef → Bool → List ℕ
link_json r hears = codes ",{" ++ member_text (codes "link") (ref_text r) ++ plain_text (codes "hears") (truth_text hears)

unfoldable pub heard_json : ObjRef → List ℕ
heard_json r = link_json r true ++ codes "}"

unfoldable pub stopped_json : ObjRef → List ℕ
stopped_json r = link_json r false ++ plain_text (codes "runs") (codes "false") ++ codes "}"

unfoldable pub unlike_json : ObjRef → Option Value → List ℕ
unlike_json r v = link_json r false ++ more_text (codes "waits for") (wanted_text v) ++ codes "}"

abbrev pub heard_in : Form → ObjRef → List ℕ
heard_in form.Text r = heard_note r
heard_in form.Json r = heard_json r

abbrev pub stopped_in : Form → ObjRef → List ℕ
stopped_in form.Text r = stopped_note r
stopped_in form.Json r = stopped_json r

abbrev pub unlike_in : Form → ObjRef → Option Value → List ℕ
unlike_in form.Text r v = unlike_note r v
unlike_in form.Json r v = unlike_json r v

abbrev pub ear_by : Form → Event → Object → List ℕ
ear_by f e o =
    if o.body.running
    then (if hears_data (wanted o) e.data then heard_in f o.fixed.key else unlike_in f o.fixed.key (wanted o))
    else stopped_in f o.fixed.key

abbrev pub ear : Form → Event → Object → List ℕ
ear f e o = if waits e o then ear_by f e o else []

abbrev pub ears : Form → Option Event → List Object → List ℕ
ears f None os = []
ears f (Some e) os = flat_map (ear f e) os

-- Keys

-- the event that a key is to a scene, if the register lets it through
abbrev pub key_told : Key → Option Interaction → Option (List ℕ) → List Object → Option Event
key_told k (Some i) g os = None
key_told k None None os = None
key_told k None (Some g) os =
    if passes (register_of (object_at (group_ref g) os)) k then Some (key_event k (group_ref g)) else None

-- where a key goes that no link can hear

unfoldable pub pressed_note : ObjRef → List ℕ
pressed_note r = codes "; goes to " ++ ref_text r ++ codes ", which interacts"

unfoldable pub blocked_note : List ℕ → Option Object → List ℕ
blocked_note g o = codes "; blocked by register " ++ signed_decimal (register_of o) ++ codes " of " ++ g

abbrev pub key_note : Key → Option Interaction → Option (List ℕ) → List Object → List ℕ
key_note k (Some i) g os = pressed_note i.object
key_note k None None os = codes "; there is no scene"
key_note k None (Some g) os =
    if passes (register_of (object_at (group_ref g) os)) k then [] else blocked_note g (object_at (group_ref g) os)

-- The event that a step lets links hear, if it does: one that is emitted and heard at once, one that is taken from the
-- queue, or what an input is to a group.

abbrev pub told_by_item : Item → Option Event
told_by_item (item.Emit e) = if is_sync e.kind then Some e else None
told_by_item _ = None

abbrev pub told_by_waiting : Waiting → State → Option Event
told_by_waiting (waiting.Event e) s = Some e
told_by_waiting (waiting.Input (input.Key k)) s = key_told k s.interaction s.scene (all s.objects)
told_by_waiting (waiting.Input (input.Engine n)) s = Some (engine_event n s.application)
told_by_waiting (waiting.Input _) s = None

abbrev pub told : Option Item → Option Waiting → State → Option Event
told (Some i) w s = told_by_item i
told None (Some w) s = told_by_waiting w s
told None None s = None
