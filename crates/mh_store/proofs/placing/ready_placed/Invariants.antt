use Rattle.std.proofs.Common.{◌≡◌, ◌++◌, drop}
use Rattle.mh_store.specs.Placing.{ready_placed}
use Rattle.mh_store.proofs.placing.ready_placed.Given as goal

abbrev pub invariant-loop-one : goal.invariant-loop-one
invariant-loop-one l =
    l.ready.items ++ ready_placed (drop l.one-index l.placed) l.objects ≡ ready_placed l.placed l.objects
