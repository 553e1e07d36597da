use Rattle.std.proofs.Common.{◌≡◌, ◌++◌}
use Rattle.mh_work.specs.Batches.{written}
use Rattle.mh_work.proofs.lifecycle.push_items.Given as goal

abbrev pub invariant-loop-item : goal.invariant-loop-item
invariant-loop-item l =
    written l.batches.items ++ l.item-iterator.rest.items
    ≡ written l.initial.batches.items ++ l.initial.item-iterator.rest.items
