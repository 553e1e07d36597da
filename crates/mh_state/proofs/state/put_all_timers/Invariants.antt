use Rattle.std.proofs.Common.{◌≡◌, ◌++◌, drop}
use Rattle.std.specs.List.{flat_map}
use Rattle.mh_state.specs.State.{timer_line}
use Rattle.mh_state.proofs.state.put_all_timers.Given as goal

abbrev pub invariant-loop-timer : goal.invariant-loop-timer
invariant-loop-timer l =
    l.text ++ flat_map timer_line (drop l.timer-index l.timers) ≡ l.initial.text ++ flat_map timer_line l.timers
