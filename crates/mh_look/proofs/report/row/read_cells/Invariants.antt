use Rattle.std.proofs.Common.{length}
use Rattle.mh_look.proofs.RowPartLemmas.{IsPart}
use Rattle.mh_look.proofs.report.row.read_cells.Given as goal

abbrev pub invariant-loop-left : goal.invariant-loop-left
invariant-loop-left l = IsPart l.bytes l.left l.cells.items

abbrev pub decreases-loop-left : goal.decreases-loop-left
decreases-loop-left l = length l.left
