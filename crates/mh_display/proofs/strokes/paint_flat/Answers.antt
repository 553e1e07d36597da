use Rattle.std.proofs.Common.{rules}
use Rattle.mh_display.proofs.StrokeLemmas.{no_column, next_column, last_column}
use Rattle.mh_display.proofs.strokes.paint_flat.Goals as goal

pub loop-column-init : goal.loop-column-init
loop-column-init c = (search rules, no_column _ _ _)

pub loop-column-preserved : goal.loop-column-preserved
loop-column-preserved c = (search rules, next_column _ _ _ _ _ c.loop-column.column c.loop-column.invariant.1 c.paint_in_column.ensures)

pub returns : goal.returns
returns c = last_column _ _ _ _ c.loop-column.column (search rules) c.loop-column.invariant.1
