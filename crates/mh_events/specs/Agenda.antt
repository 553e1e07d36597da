-- What is still to come.
use Rattle.std.specs.Prelude.{ℕ, ◌+◌, Bool, false, not, nat_le, if◌then◌else◌, List, map}
use Rattle.std.specs.Str.{bytes_eq}
use Rattle.mh_model.specs.declared.input.Input.{Input}
use Rattle.mh_model.specs.declared.input.Input.TheVariants as input
use Rattle.mh_model.specs.declared.input.Waiting.{Waiting}
use Rattle.mh_model.specs.declared.input.Waiting.TheVariants as waiting
use Rattle.mh_model.specs.declared.time.Moments.{Moments}
use Rattle.mh_model.specs.declared.time.Timer.{Timer}
use Rattle.mh_model.specs.Step.{time_ahead}
use Rattle.mh_model.specs.Time.{due, timer_event}
use Rattle.mh_model.specs.Limits.{most_moment}

-- the moments, the timers that are set, and what waits, with the room for more
pub record Coming : Type 0 where
  pub moments : Moments
  pub timers : List Timer
  pub queue : List Waiting
  pub room : ℕ

-- a tick would lead past the last moment
abbrev pub passes_the_last : Input → Coming → Bool
passes_the_last (input.Tick n) a = not (nat_le (a.moments.present + time_ahead a.queue + n) most_moment)
passes_the_last _ a = false

-- the events of the timers that are due, as they wait
abbrev pub fired : ℕ → List ℕ → List Timer → List Waiting
fired now app ts = map (λ t. waiting.Event (timer_event t)) (due now app ts)

-- the moments, when a group is entered
abbrev pub entered : List ℕ → List ℕ → Moments → Moments
entered app g m = if bytes_eq g app then record m { application = m.present } else record m { scene = m.present }
