use Rattle.std.proofs.Common.{◌≡◌, ◌++◌, ◌+◌, ◌≤◌, length, vec_len}
use Rattle.std.specs.Vec.{vec_capacity}
use Rattle.mh_events.proofs.timers.timers_of.Given as goal

abbrev pub invariant-loop-timer : goal.invariant-loop-timer
invariant-loop-timer l =
    (l.list.items ++ l.timer-iterator ≡ l.initial.list.items ++ l.initial.timer-iterator)
    × (vec_len l.list + length l.timer-iterator ≤ vec_capacity l.list)
