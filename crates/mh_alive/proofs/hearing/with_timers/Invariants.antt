use Rattle.std.proofs.Common.{◌≡◌}
use Rattle.indexmap.specs.IndexSet.{insert_all}
use Rattle.mh_alive.specs.Tellings.{same_timer}
use Rattle.mh_alive.proofs.hearing.with_timers.Given as goal

abbrev pub invariant-loop-timer : goal.invariant-loop-timer
invariant-loop-timer l = insert_all same_timer l.set.keys l.timer-iterator.rest.items ≡ insert_all same_timer (l.fn.timers).set (l.fn.further).items
