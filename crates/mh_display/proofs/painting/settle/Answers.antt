use Rattle.std.proofs.Common.{rules}
use Rattle.mh_display.proofs.RowLemmas.{no_cell, next_stretch, every_row}
use Rattle.mh_display.proofs.painting.settle.Goals as goal

pub loop-row-init : goal.loop-row-init
loop-row-init c = no_cell _ _ _

pub loop-row-preserved : goal.loop-row-preserved
loop-row-preserved c = next_stretch _ _ _ _ c.loop-row.row c.loop-row.invariant c.settle_row.ensures

pub returns-clause-settled : goal.returns-clause-settled
returns-clause-settled c = every_row _ _ _ c.loop-row.row (search rules) c.loop-row.invariant
