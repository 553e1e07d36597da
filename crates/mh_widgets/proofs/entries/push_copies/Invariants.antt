use Rattle.std.proofs.Common.{◌≡◌, ◌++◌, drop}
use Rattle.mh_widgets.proofs.entries.push_copies.Given as goal

abbrev pub invariant-loop-entry : goal.invariant-loop-entry
invariant-loop-entry l = l.copies.items ++ drop l.entry-index l.entries ≡ l.fn.copies.items ++ l.entries
