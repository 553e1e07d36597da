use Rattle.std.proofs.Common.{◌≡◌, ◌++◌, ◌+◌, ◌≤◌, length, vec_len}
use Rattle.std.specs.Prelude.{map}
use Rattle.std.specs.Vec.{vec_capacity}
use Rattle.mh_model.specs.Time.{timer_event}
use Rattle.mh_events.proofs.timers.events_of.Given as goal

abbrev pub invariant-loop-timer : goal.invariant-loop-timer
invariant-loop-timer l =
    (l.events.items ++ map timer_event l.timer-iterator ≡ l.initial.events.items ++ map timer_event l.initial.timer-iterator)
    × (vec_len l.events + length l.timer-iterator ≤ vec_capacity l.events)
