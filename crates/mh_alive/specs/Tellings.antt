-- Which events may come of which objects, as far as their source and type tell; and which timers can be set.
use Rattle.std.specs.Prelude.{◌==◌, Bool, ◌&&◌, if◌then◌else◌, List, [], ◌∷◌, ◌++◌, map, ℤ}
use Rattle.std.specs.List.{flat_map}
use Rattle.std.specs.Option.{option_map_or}
use Rattle.std.specs.Ordering.{int_eq}
use Rattle.mh_base.specs.declared.event.EventType.{EventType}
use Rattle.mh_base.specs.declared.event.EventType.TheVariants as event
use Rattle.mh_base.specs.declared.obj_ref.ObjRef.{ObjRef}
use Rattle.mh_base.specs.declared.value.Value.TheVariants as value
use Rattle.mh_base.specs.Event.{number_of}
use Rattle.mh_group.specs.declared.action_name.ActionName.{ActionName}
use Rattle.mh_group.specs.declared.action_name.ActionName.TheVariants as action
use Rattle.mh_group.specs.declared.class.Class.{Class}
use Rattle.mh_group.specs.declared.class.Class.TheVariants as class
use Rattle.mh_model.specs.declared.act.Act.{Act}
use Rattle.mh_model.specs.declared.act.Argument.{Argument}
use Rattle.mh_model.specs.declared.act.Argument.TheVariants as argument
use Rattle.mh_model.specs.declared.config.Config.{Config}
use Rattle.mh_model.specs.declared.object.Fixed.{Fixed}
use Rattle.mh_model.specs.Configuration.{present}
use Rattle.mh_model.specs.Effects.{is_sending}
use Rattle.mh_model.specs.Reference.{group_ref, same_key}
use Rattle.mh_model.specs.Saying.{event_numbered}
use Rattle.mh_model.specs.Service.{Service}
use Rattle.mh_laws.specs.Active.{active_actions}
use Rattle.mh_laws.specs.Flow.{Flow, Sets}
use Rattle.mh_alive.specs.declared.tellings.Telling.{Telling}
use Rattle.mh_alive.specs.declared.tellings.SetTimer.{SetTimer}
use Rattle.mh_alive.specs.There.{comes_to, names}

-- an object, and the number of a type of its events

abbrev pub same_telling : Telling → Telling → Bool
same_telling a b = same_key a.at b.at && a.kind == b.kind

abbrev pub telling : ObjRef → EventType → Telling
telling r kind = record { at = r; kind = number_of kind }

-- The types of events that an action tells of what it is done to, those apart that come of each object which runs or halts.
-- Lists tell of themselves.
unfoldable pub tells : ActionName → List EventType
tells action.Unload = event.IsDeleted ∷ []
tells action.TestVariable = event.TestEvent ∷ []
tells action.SetData = event.ContentAvailable ∷ []
tells action.Fork = event.AsyncStopped ∷ []
tells action.SetInteractionStatus = event.InteractionCompleted ∷ []
tells action.SetHighlightStatus = event.HighlightOn ∷ event.HighlightOff ∷ []
tells action.Select = event.IsSelected ∷ []
tells action.Deselect = event.IsDeselected ∷ []
tells action.Move = event.TokenMovedFrom ∷ event.TokenMovedTo ∷ []
tells action.MoveTo = event.TokenMovedFrom ∷ event.TokenMovedTo ∷ []
tells action.AddItem = event.FirstItemPresented ∷ event.LastItemPresented ∷ event.HeadItems ∷ event.TailItems ∷ []
tells action.DelItem = event.FirstItemPresented ∷ event.LastItemPresented ∷ event.HeadItems ∷ event.TailItems ∷ []
tells action.ScrollItems = event.FirstItemPresented ∷ event.LastItemPresented ∷ event.HeadItems ∷ event.TailItems ∷ []
tells action.SetFirstItem = event.FirstItemPresented ∷ event.LastItemPresented ∷ event.HeadItems ∷ event.TailItems ∷ []
tells action.SelectItem = event.ItemDeselected ∷ event.ItemSelected ∷ []
tells action.DeselectItem = event.ItemDeselected ∷ []
tells action.ToggleItem = event.ItemDeselected ∷ event.ItemSelected ∷ []
tells _ = []

-- those of an object of a class that come though no action tells them: of lists and token groups that run, of what interacts
-- and of streams
unfoldable pub tells_itself : Class → List EventType
tells_itself class.ListGroup = event.FirstItemPresented ∷ event.LastItemPresented ∷ event.HeadItems ∷ event.TailItems ∷ []
tells_itself class.TokenGroup = event.TokenMovedTo ∷ []
tells_itself class.EntryField = event.EntryFieldFull ∷ event.InteractionCompleted ∷ []
tells_itself class.PushButton = event.IsSelected ∷ event.InteractionCompleted ∷ []
tells_itself class.Stream = event.StreamEvent ∷ []
tells_itself _ = []

abbrev pub tellings : List EventType → ObjRef → List Telling
tellings es r = map (telling r) es

abbrev pub told_itself : Fixed → List Telling
told_itself p = tellings (tells_itself p.class) p.key

-- what is sent of this source with a type of this number
abbrev pub told_numbered : Sets → Argument → ℤ → List Telling
told_numbered h x n = option_map_or (λ kind. flat_map (tellings (kind ∷ [])) (names h x)) (event_numbered n) []

-- where the type stands first of these
abbrev pub told_typed : Sets → Argument → List Argument → List Telling
told_typed h x (argument.Direct (value.Int n) ∷ more) = told_numbered h x n
told_typed h x _ = []

-- what is sent with these arguments
abbrev pub told_with : Sets → List Argument → List Telling
told_with h [] = []
told_with h (x ∷ xs) = told_typed h x xs

abbrev pub told_by : Sets → Act → List Telling
told_by h a =
    flat_map (tellings (tells a.name)) (comes_to h a.target) ++ (if is_sending a.name then told_with h a.arguments else [])

abbrev pub told_there : Sets → List Fixed → List Telling
told_there h ps = flat_map told_itself ps ++ flat_map (told_by h) (active_actions ps)

abbrev pub told_in : Service → Flow → Config → List Telling
told_in v w c = told_there (w.sets c) (present v c)

abbrev pub told : Service → Flow → List Telling
told v w = flat_map (told_in v w) w.configs

-- Timers: the group itself, and the id

abbrev pub same_timer : SetTimer → SetTimer → Bool
same_timer a b = same_key a.at b.at && int_eq a.id b.id

abbrev pub timer : ObjRef → ℤ → SetTimer
timer r n = record { at = group_ref r.group; id = n }

-- those that an action of this name sets with these arguments, done to these objects
abbrev pub set_to : ActionName → List Argument → List ObjRef → List SetTimer
set_to action.SetTimer (argument.Direct (value.Int id) ∷ x ∷ more) rs = map (λ r. timer r id) rs
set_to _ xs rs = []

abbrev pub set_by : Sets → Act → List SetTimer
set_by h a = set_to a.name a.arguments (comes_to h a.target)

abbrev pub set_in : Service → Flow → Config → List SetTimer
set_in v w c = flat_map (set_by (w.sets c)) (active_actions (present v c))

abbrev pub set_timers : Service → Flow → List SetTimer
set_timers v w = flat_map (set_in v w) w.configs
