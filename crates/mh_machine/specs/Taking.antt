-- Taking what waits first.
use Rattle.std.specs.Prelude.{ℤ, Bool, ◌+◌, List, [], ◌∷◌, drop, filter, map, Option, Some, None}
use Rattle.mh_model.specs.declared.event.Event.{Event}
use Rattle.mh_model.specs.declared.object.Object.{Object}
use Rattle.mh_model.specs.State.{State}
use Rattle.mh_model.specs.Step.{is_streaming, stream_event, content_event}

-- the state with the first that waits taken from the queue, and the step counted
abbrev pub shifted : State → State
shifted s = record s { queue = drop 1 s.queue; taken = s.taken + 1 }

-- the event of an object that was found, if it is meant
abbrev pub event_by : (Object → Bool) → (Object → Event) → Option Object → List Event
event_by is event None = []
event_by is event (Some o) = map event (filter is (o ∷ []))

-- if it is a stream that runs
abbrev pub told_by : ℤ → Option Object → List Event
told_by tag o = event_by is_streaming (stream_event tag) o

-- the event of one that waits for a file, if it was found
abbrev pub content_by : Option Object → List Event
content_by None = []
content_by (Some o) = content_event o ∷ []
