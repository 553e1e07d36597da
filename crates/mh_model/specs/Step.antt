-- Taking, steps, posts and runs.
use Rattle.std.specs.Prelude.{ℕ, zero, suc, ◌+◌, ◌==◌, ◌&&◌, ◌||◌, Bool, true, false, not, nat_lt, if◌then◌else◌, List, [], ◌∷◌, ◌++◌, length, filter, drop, slice_get, Option, Some, None, ℤ, pos, nat_le, map}
use Rattle.std.specs.List.{list_any, sum_by}
use Rattle.std.specs.Str.{bytes_eq}
use Rattle.mh_base.specs.declared.value.Value.TheVariants as value
use Rattle.mh_base.specs.declared.event.EventType.TheVariants as event
use Rattle.mh_group.specs.declared.attribute.Attribute.TheVariants as attribute
use Rattle.mh_group.specs.Table.{is_stream}
use Rattle.mh_base.specs.declared.obj_ref.ObjRef.{ObjRef}
use Rattle.mh_group.specs.declared.action_name.ActionName.TheVariants as action
use Rattle.mh_model.specs.declared.event.Event.{Event}
use Rattle.mh_model.specs.declared.fault.Fault.{Fault}
use Rattle.mh_model.specs.declared.file.File.{File}
use Rattle.mh_model.specs.declared.file.Wait.{Wait}
use Rattle.mh_model.specs.declared.input.Input.{Input}
use Rattle.mh_model.specs.declared.input.Input.TheVariants as input
use Rattle.mh_model.specs.declared.input.Obstacle.{Obstacle}
use Rattle.mh_model.specs.declared.input.Obstacle.TheVariants as refused
use Rattle.mh_model.specs.declared.input.Waiting.{Waiting}
use Rattle.mh_model.specs.declared.input.Waiting.TheVariants as waiting
use Rattle.mh_model.specs.declared.input.Move.{Move}
use Rattle.mh_model.specs.declared.input.Move.TheVariants as move
use Rattle.mh_model.specs.declared.interaction.Interaction.{Interaction}
use Rattle.mh_model.specs.declared.item.Item.{Item}
use Rattle.mh_model.specs.declared.key.Key.{Key}
use Rattle.mh_model.specs.declared.object.Object.{Object}
use Rattle.mh_model.specs.declared.transition.Transition.{Transition}
use Rattle.mh_model.specs.declared.transition.Transition.TheVariants as transition
use Rattle.mh_model.specs.EntryFields.{Pressed, pressed_of}
use Rattle.mh_model.specs.Key.{key_number, passes}
use Rattle.mh_model.specs.Property.{read, as_int}
use Rattle.mh_model.specs.Service.{object_at}
use Rattle.mh_model.specs.Reference.{group_ref}
use Rattle.mh_model.specs.State.{State, all}
use Rattle.mh_model.specs.Items.{heard}
use Rattle.mh_model.specs.Stuck.{stuck}
use Rattle.mh_model.specs.Files.{with_file, waits_for, arrived, is_too_large, is_too_many}
use Rattle.mh_model.specs.Late.{is_late_scene, is_written_so, late_without, written_at}
use Rattle.mh_model.specs.Rules.{begins, rule, changed, text_brought, is_input}
use Rattle.mh_model.specs.Time.{is_due, due, timer_event}
use Rattle.mh_model.specs.Limits.{longest_tick, most_moment, most_inputs, most_steps}

-- Taking. What is taken has left the queue, and the step is counted; the work list is empty.

-- the input event register of a scene
abbrev pub register_of : Option Object → ℤ
register_of None = pos 4
register_of (Some o) = as_int (pos 4) (read attribute.InputEventReg o)

-- a key, as an event of the scene, has its number as data
abbrev pub key_event : Key → ObjRef → Event
key_event k source = record { source = source; kind = event.UserInput; «data» = Some (value.Int (key_number k)) }

-- a key that the scene hears puts the actions of the links that wait for it
abbrev pub key_items : Key → Option (List ℕ) → List Object → List Item
key_items k None os = []
key_items k (Some g) os =
    if passes (register_of (object_at (group_ref g) os)) k then heard (key_event k (group_ref g)) os else []

-- while an object interacts every key goes to it

abbrev pub with_pressed : Pressed → ObjRef → State → State
with_pressed w r s = record s {
  objects = changed (λ p b. w.body) r s.objects;
  interaction = if w.ends then None else s.interaction;
  work = w.items;
}

abbrev pub pressed_at : Key → Interaction → Option Object → State → State
pressed_at k i None s = s
pressed_at k i (Some o) s =
    with_pressed (pressed_of o.fixed.class k i.before i.object o.fixed o.body) i.object s

abbrev pub key_taken : Key → Option Interaction → State → State
key_taken k None s = record s { work = key_items k s.scene (all s.objects) }
key_taken k (Some i) s = pressed_at k i (object_at i.object (all s.objects)) s

-- an event of the engine is one of the active application
abbrev pub engine_event : ℤ → List ℕ → Event
engine_event n app = record { source = group_ref app; kind = event.EngineEvent; «data» = Some (value.Int n) }

-- time passes: the timers that are due go, and their events wait

abbrev pub timers_fired : ℕ → State → List Waiting
timers_fired now s = map (λ t. waiting.Event (timer_event t)) (due now s.application s.timers)

abbrev pub ticked : ℕ → State → State
ticked n s = record s {
  moments = record s.moments { present = s.moments.present + n };
  timers = filter (λ t. not (is_due (s.moments.present + n) t)) s.timers;
  queue = s.queue ++ timers_fired (s.moments.present + n) s;
}

-- each stream that runs has an event that waits, with the tag as data

abbrev pub is_streaming : Object → Bool
is_streaming o = is_stream o.fixed.class && o.body.running

abbrev pub stream_event : ℤ → Object → Event
stream_event n o = record { source = o.fixed.key; kind = event.StreamEvent; «data» = Some (value.Int n) }

abbrev pub streams_told : ℤ → State → List Waiting
streams_told n s = map (λ o. waiting.Event (stream_event n o)) (filter is_streaming (all s.objects))

-- a file is there; the objects that wait for it have its content as their text, and each has an event that waits

abbrev pub is_waiting : List ℕ → List Wait → Object → Bool
is_waiting name ws o = waits_for name ws o.fixed.key

abbrev pub content_event : Object → Event
content_event o = record { source = o.fixed.key; kind = event.ContentAvailable; «data» = None }

abbrev pub contents_told : List ℕ → State → List Waiting
contents_told name s = map (λ o. waiting.Event (content_event o)) (filter (is_waiting name s.waits) (all s.objects))

abbrev pub file_taken : File → State → State
file_taken f s = record s {
  objects = text_brought (waits_for f.name s.waits) f.content s.objects;
  queue = s.queue ++ contents_told f.name s;
  files = with_file f s.files;
  waits = arrived f.name s.waits;
}

-- the file of a scene is there, which is late no longer; a transition that waits for it begins

abbrev pub awaits : List ℕ → Transition → Bool
awaits g (transition.Awaits h) = bytes_eq g h
awaits g _ = false

abbrev pub scene_arrived : List ℕ → State → State
scene_arrived g s = record s { late = late_without g s.late }

abbrev pub scene_taken : List ℕ → State → State
scene_taken g s =
    if awaits g s.transition then begins action.TransitionTo (group_ref g) (scene_arrived g s) else scene_arrived g s

-- what becomes of the state when this is taken
abbrev pub taking : Waiting → State → State
taking (waiting.Event e) s = record s { work = heard e (all s.objects) }
taking (waiting.Input (input.Key k)) s = key_taken k s.interaction s
taking (waiting.Input (input.Tick n)) s = ticked n s
taking (waiting.Input (input.Stream n)) s = record s { queue = s.queue ++ streams_told n s }
taking (waiting.Input (input.Engine n)) s =
    record s { work = heard (engine_event n s.application) (all s.objects) }
taking (waiting.Input (input.Arrive f)) s = file_taken f s
taking (waiting.Input (input.Scene g w)) s = scene_taken g s

-- taking the first that waits in the queue
abbrev pub took : Waiting → State → State
took w s = taking w (record s { queue = drop 1 s.queue; taken = s.taken + 1 })

-- The work list is touched at its front alone: `slice_get 0` is the first item, and `drop 1` the rest.

-- a stuck item is removed, and its fault is noted
abbrev pub faulted : Fault → State → State
faulted f s = record s { work = drop 1 s.work; taken = s.taken + 1; faults = s.faults ++ f ∷ [] }

-- an item is removed, counted, and done
abbrev pub done : Item → State → State
done i s = rule i (record s { work = drop 1 s.work; taken = s.taken + 1 })

abbrev pub did : Option Fault → Item → State → State
did None i s = done i s
did (Some f) i s = faulted f s

-- one step does the first item of the work list, or takes what waits first where there is no work
abbrev pub step_by : Option Item → Option Waiting → State → State
step_by (Some i) next s = did (stuck i s) i s
step_by None (Some w) s = took w s
step_by None None s = s

-- when the engine has ended, a step changes nothing
abbrev pub step : State → State
step s = if s.ended then s else step_by (slice_get s.work 0) (slice_get s.queue 0) s

abbrev pub is_empty : {X : Type 0} → List X → Bool
is_empty [] = true
is_empty (x ∷ xs) = false

-- there is nothing to do
abbrev pub is_idle : State → Bool
is_idle s = is_empty s.work && is_empty s.queue

-- nothing is left to do: the engine has ended, or it is idle
abbrev pub is_settled : State → Bool
is_settled s = s.ended || is_idle s

abbrev pub inputs : List Waiting → ℕ
inputs ws = length (filter is_input ws)

abbrev pub is_full : State → Bool
is_full s = not (nat_lt (inputs s.queue) most_inputs)

-- a tick is of 1 to 60,000 milliseconds
abbrev pub is_in_range : Input → Bool
is_in_range (input.Tick n) = nat_le 1 n && nat_le n longest_tick
is_in_range _ = true

-- how much time will have passed when all that waits is taken

abbrev pub time_of : Waiting → ℕ
time_of (waiting.Input (input.Tick n)) = n
time_of _ = 0

abbrev pub time_ahead : List Waiting → ℕ
time_ahead ws = sum_by time_of ws

-- the files that will be there when all that waits is taken

abbrev pub file_in : Waiting → Option File
file_in (waiting.Input (input.Arrive f)) = Some f
file_in _ = None

abbrev pub stored_by : Option File → List File → List File
stored_by None fs = fs
stored_by (Some f) fs = with_file f fs

abbrev pub files_ahead : List File → List Waiting → List File
files_ahead fs [] = fs
files_ahead fs (w ∷ ws) = files_ahead (stored_by (file_in w) fs) ws

-- a scene of this name is not late any more or never was, or its file waits already; and a file that is not its own

abbrev pub is_file_of : List ℕ → Waiting → Bool
is_file_of g (waiting.Input (input.Scene h w)) = bytes_eq g h
is_file_of g _ = false

abbrev pub is_not_late : Input → State → Bool
is_not_late (input.Scene g w) s = not (is_late_scene g s.late) || list_any (is_file_of g) s.queue
is_not_late _ s = false

abbrev pub is_another_group : Input → State → Bool
is_another_group (input.Scene g w) s = not (is_written_so w (written_at g s.service.files))
is_another_group _ s = false

-- a file that is too large, and one for whose name there is no room
abbrev pub is_over_size : Input → Bool
is_over_size (input.Arrive f) = is_too_large f
is_over_size _ = false

abbrev pub is_over_number : Input → State → Bool
is_over_number (input.Arrive f) s = is_too_many f (files_ahead s.files s.queue)
is_over_number _ s = false

-- a tick would lead past the last moment
abbrev pub is_past_the_last : Input → State → Bool
is_past_the_last (input.Tick n) s = not (nat_le (s.moments.present + time_ahead s.queue + n) most_moment)
is_past_the_last _ s = false

-- why an input is refused, if it is: the first of these, where the first argument says whether it is another group than the
-- service's
abbrev pub obstacle_if : Bool → Input → State → Option Obstacle
obstacle_if differs i s =
    if s.ended then Some refused.Ended
    else (if not (is_in_range i) then Some refused.TickRange
    else (if is_not_late i s then Some refused.NotLate
    else (if differs then Some refused.Differs
    else (if is_over_size i then Some refused.TooLarge
    else (if is_over_number i s then Some refused.TooMany
    else (if is_past_the_last i s then Some refused.ClockFull
    else (if is_full s then Some refused.QueueFull else None)))))))

abbrev pub obstacle : Input → State → Option Obstacle
obstacle i s = obstacle_if (is_another_group i s) i s

abbrev pub posted_by : Option Obstacle → Input → State → State
posted_by None i s = record s { queue = s.queue ++ waiting.Input i ∷ [] }
posted_by (Some o) i s = s

-- a post adds one input at the end of the queue, or is refused and changes nothing
abbrev pub posted : Input → State → State
posted i s = posted_by (obstacle i s) i s

-- Before the first post and the first step, files can be put there.

abbrev pub has_begun : State → Bool
has_begun s = not (s.taken == 0) || not (is_empty s.queue)

-- why a file is not put there, if it is not: the first of these
abbrev pub preset_obstacle : File → State → Option Obstacle
preset_obstacle f s =
    if has_begun s then Some refused.Begun
    else (if is_too_large f then Some refused.TooLarge
    else (if is_over_number (input.Arrive f) s then Some refused.TooMany else None))

abbrev pub preset : File → State → State
preset f s = record s { files = with_file f s.files }

-- a step move of a run: with all steps counted nothing changes
abbrev pub stepped : State → State
stepped s = if s.taken == most_steps then s else step s

-- so many steps; where there is nothing to do, a step changes nothing
unfoldable pub advanced : ℕ → State → State
advanced zero s = s
advanced (suc n) s = advanced n (stepped s)

abbrev pub moved : Move → State → State
moved (move.Post i) s = posted i s
moved move.Step s = stepped s

-- a run makes its moves in order
abbrev pub run : List Move → State → State
run [] s = s
run (m ∷ ms) s = run ms (moved m s)
