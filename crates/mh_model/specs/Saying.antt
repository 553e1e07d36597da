-- What an action says: the answers for its receivers, and the items that it puts.
use Rattle.std.specs.Prelude.{ℕ, Bool, true, false, ◌&&◌, if◌then◌else◌, List, [], ◌∷◌, length, slice_get, Option, Some, None, ℤ, pos, negsuc}
use Rattle.std.specs.Option.{is_some, option_map}
use Rattle.mh_base.specs.declared.obj_ref.ObjRef.{ObjRef}
use Rattle.mh_base.specs.declared.value.Value.{Value}
use Rattle.mh_base.specs.declared.value.Value.TheVariants as value
use Rattle.mh_base.specs.declared.event.EventType.{EventType}
use Rattle.mh_base.specs.declared.event.EventType.TheVariants as event
use Rattle.mh_base.specs.Event.{event_of}
use Rattle.mh_group.specs.declared.action_name.ActionName.{ActionName}
use Rattle.mh_group.specs.declared.action_name.ActionName.TheVariants as action
use Rattle.mh_group.specs.declared.attribute.Attribute.TheVariants as attribute
use Rattle.mh_model.specs.declared.object.listing.Entry.{Entry}
use Rattle.mh_model.specs.declared.item.Item.{Item}
use Rattle.mh_model.specs.declared.item.Item.TheVariants as item
use Rattle.mh_model.specs.declared.object.Object.{Object}
use Rattle.mh_model.specs.declared.operator.Operator.{Operator}
use Rattle.mh_model.specs.Bodies.{text_of}
use Rattle.mh_model.specs.declared.file.File.{File}
use Rattle.mh_model.specs.Files.{comes_to, is_loadable}
use Rattle.mh_model.specs.Items.{plain_event}
use Rattle.mh_model.specs.Lifecycle.{emit_if, is_available_at}
use Rattle.mh_model.specs.Lists.{shows}
use Rattle.mh_model.specs.Looks.{label_of}
use Rattle.mh_model.specs.Programs.{counted}
use Rattle.mh_model.specs.Property.{read, as_pair, value_held}
use Rattle.mh_model.specs.Tokens.{numbered, slot_items}
use Rattle.mh_model.specs.Variables.{fits_octets, operator_of, test}

-- Answers

abbrev pub both : ℤ × ℤ → List Value
both (x, y) = value.Int x ∷ value.Int y ∷ []

-- what is too long is not answered
abbrev pub octets_answered : List ℕ → List Value
octets_answered os = if fits_octets os then value.Octets os ∷ [] else []

-- of a list: whether an item is selected, and which object it is, where there is such an item

abbrev pub status_told : Option Entry → List Value
status_told None = []
status_told (Some e) = value.Bool e.selected ∷ []

abbrev pub item_told : Option ObjRef → List Value
item_told None = []
item_told (Some r) = value.Object r ∷ []

-- what the object answers to the action
abbrev pub answers : ActionName → List Value → Object → List Value
answers action.GetAvailabilityStatus vs o = value.Bool o.body.available ∷ []
answers action.GetRunningStatus vs o = value.Bool o.body.running ∷ []
answers action.GetPosition vs o = both (as_pair (read attribute.OrigPosition o))
answers action.GetBoxSize vs o = both (as_pair (read attribute.OrigBoxSize o))
answers action.GetTextData vs o = octets_answered (text_of o.body)
answers action.GetHighlightStatus vs o = value.Bool o.body.highlighted ∷ []
answers action.GetEntryPoint vs o = value.Int (counted o.body.point) ∷ []
answers action.GetLabel vs o = octets_answered (label_of o.fixed o.body)
answers action.GetTokenPosition vs o = value.Int (counted o.body.token) ∷ []
answers action.GetFirstItem vs o = value.Int (counted o.body.list.first) ∷ []
answers action.GetListSize vs o = value.Int (counted (length o.body.list.entries)) ∷ []
answers action.GetItemStatus (value.Int (pos n) ∷ []) o = status_told (numbered o.body.list.entries n)
answers action.GetListItem (value.Int (pos n) ∷ []) o = item_told (option_map (λ e. e.object) (numbered o.body.list.entries n))
answers action.GetCellItem (value.Int (pos n) ∷ []) o =
    item_told (numbered (shows o.body.running o.fixed o.body.list).items n)
answers _ vs o = []

abbrev pub answers_at : ActionName → List Value → Option Object → List Value
answers_at n vs None = []
answers_at n vs (Some o) = answers n vs o

-- Items

-- the type of events with the number
abbrev pub event_numbered : ℤ → Option EventType
event_numbered (pos n) = event_of n
event_numbered (negsuc n) = None

-- an event of the source, with the data if there is any
abbrev pub sent : ObjRef → Option EventType → List Value → List Item
sent source None data_given = []
sent source (Some kind) data_given =
    item.Emit (record { source = source; kind = kind; «data» = slice_get data_given 0 }) ∷ []

-- the event that says how the test went
abbrev pub tested : ObjRef → Option Operator → Option Value → Value → List Item
tested r (Some o) (Some held) v =
    item.Emit (record { source = r; kind = event.TestEvent; «data» = Some (value.Bool (test o held v)) }) ∷ []
tested r _ _ v = []

-- what the action puts, done to the object at this reference
abbrev pub put_items : ActionName → List Value → ObjRef → Object → List Item
put_items action.Run vs r o = item.Run r ∷ []
put_items action.Stop vs r o = item.Halt r ∷ []
put_items action.Preload vs r o = item.Prepare r ∷ []
put_items action.Unload vs r o = item.Halt r ∷ item.Drop r ∷ []
put_items action.Activate vs r o = item.Run r ∷ []
put_items action.Deactivate vs r o = item.Halt r ∷ []
put_items action.SendEvent (value.Object source ∷ value.Int kind ∷ more) r o = sent source (event_numbered kind) more
put_items action.TestVariable (value.Int n ∷ v ∷ []) r o = tested r (operator_of n) (value_held o.fixed o.body) v
put_items action.CallActionSlot vs r o = slot_items vs o.fixed o.body
put_items _ vs r o = []

-- that new content is there, of an object that is available, where these files are
abbrev pub load_items : List File → List Value → ObjRef → Option Object → List Item
load_items fs (v ∷ []) r o =
    emit_if (is_loadable v && is_available_at o && is_some (comes_to fs v)) r event.ContentAvailable
load_items fs vs r o = []

-- that a program that was started beside the rest has stopped
abbrev pub call_items : ActionName → ObjRef → List Item
call_items action.Fork r = plain_event r event.AsyncStopped ∷ []
call_items _ r = []

-- that an object no longer interacts
abbrev pub interaction_items : List Value → Bool → ObjRef → List Item
interaction_items (value.Bool false ∷ []) true r = plain_event r event.InteractionCompleted ∷ []
interaction_items vs interacts r = []

abbrev pub put_items_at : ActionName → List Value → ObjRef → Option Object → List Item
put_items_at n vs r None = []
put_items_at n vs r (Some o) = put_items n vs r o
