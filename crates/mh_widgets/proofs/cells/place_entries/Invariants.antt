use Rattle.std.proofs.Common.{◌≡◌, ◌++◌, length}
use Rattle.std.specs.List.{zip}
use Rattle.mh_model.specs.Lists.{objects_of}
use Rattle.mh_widgets.proofs.cells.place_entries.Given as goal

abbrev pub invariant-loop-entry : goal.invariant-loop-entry
invariant-loop-entry l = l.placed.items ++ zip (objects_of l.left) l.free ≡ l.fn.placed.items ++ zip (objects_of l.entries) l.positions

abbrev pub decreases-loop-entry : goal.decreases-loop-entry
decreases-loop-entry l = length l.left
