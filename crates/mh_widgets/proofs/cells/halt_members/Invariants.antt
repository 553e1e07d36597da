use Rattle.std.proofs.Common.{◌≡◌, ◌++◌, drop}
use Rattle.mh_model.specs.Lists.{objects_of, halted_members}
use Rattle.mh_widgets.proofs.cells.halt_members.Given as goal

abbrev pub invariant-loop-entry : goal.invariant-loop-entry
invariant-loop-entry l = l.items.items ++ halted_members (objects_of (drop l.entry-index l.entries)) l.others ≡ l.fn.items.items ++ halted_members (objects_of l.entries) l.others
