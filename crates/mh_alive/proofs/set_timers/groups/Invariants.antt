use Rattle.std.proofs.Common.{◌≡◌, [], drop, map}
use Rattle.indexmap.specs.IndexSet.{insert_all}
use Rattle.mh_model.specs.Reference.{same_key}
use Rattle.mh_alive.proofs.set_timers.groups.Given as goal

abbrev pub invariant-loop-timer : goal.invariant-loop-timer
invariant-loop-timer l =
    insert_all same_key l.groups.keys (map (λ t. t.at) (drop l.timer-index l.timers)) ≡ insert_all same_key [] (map (λ t. t.at) l.timers)
