use Rattle.std.proofs.Common.{◌≡◌, [], drop}
use Rattle.indexmap.specs.IndexSet.{insert_all}
use Rattle.mh_laws.specs.Costs.{same_timer}
use Rattle.mh_layers.proofs.numbered.timers.each_once.Given as goal

abbrev pub invariant-loop-timer : goal.invariant-loop-timer
invariant-loop-timer l =
    insert_all same_timer l.set.keys (drop l.timer-index l.timers) ≡ insert_all same_timer [] l.timers
