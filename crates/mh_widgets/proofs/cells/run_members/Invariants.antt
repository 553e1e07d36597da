use Rattle.std.proofs.Common.{◌≡◌, ◌++◌, drop}
use Rattle.mh_model.specs.Lists.{objects_of, run_members}
use Rattle.mh_widgets.proofs.cells.run_members.Given as goal

abbrev pub invariant-loop-entry : goal.invariant-loop-entry
invariant-loop-entry l = l.items.items ++ run_members l.others (objects_of (drop l.entry-index l.entries)) ≡ l.fn.items.items ++ run_members l.others (objects_of l.entries)
