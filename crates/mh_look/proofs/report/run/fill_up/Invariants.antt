use Rattle.std.proofs.Common.{◌≡◌, ◌-◌, length}
use Rattle.mh_look.specs.Cells.{filled}
use Rattle.mh_look.proofs.report.run.fill_up.Given as goal

abbrev pub invariant-loop-cell : goal.invariant-loop-cell
invariant-loop-cell l = filled l.cells.items l.count l.cell ≡ filled l.initial.cells.items l.count l.cell

abbrev pub decreases-loop-cell : goal.decreases-loop-cell
decreases-loop-cell l = l.count - length l.cells.items
