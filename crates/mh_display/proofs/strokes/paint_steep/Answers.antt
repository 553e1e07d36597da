use Rattle.std.proofs.Common.{rules}
use Rattle.mh_display.proofs.RowLemmas.{no_row, next_row, last_row}
use Rattle.mh_display.proofs.strokes.paint_steep.Goals as goal

pub loop-row-init : goal.loop-row-init
loop-row-init c = (search rules, no_row _ _ _)

pub loop-row-preserved : goal.loop-row-preserved
loop-row-preserved c = (search rules, next_row _ _ _ _ _ c.loop-row.row c.loop-row.invariant.0 (search rules) (search rules) c.loop-row.invariant.1 c.paint_in_row.ensures)

pub returns : goal.returns
returns c = last_row _ _ _ _ c.loop-row.row (search rules) c.loop-row.invariant.1
