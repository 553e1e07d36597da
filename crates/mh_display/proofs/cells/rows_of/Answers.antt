use Rattle.std.proofs.Common.{rules}
use Rattle.mh_display.proofs.RowBitLemmas.{all_found, none_found, one_found}
use Rattle.mh_display.proofs.cells.rows_of.Goals.{then-rows-row-ne0, else-rows-row-ne0}
use Rattle.mh_display.proofs.cells.rows_of.Goals as goal

pub loop-row-preserved : goal.loop-row-preserved
loop-row-preserved c =
    elim c.if-rows-row-ne0.branch [
      | then-rows-row-ne0 w ↦ one_found c.args.rows.now c.loop-row.row c.loop-row.found _ (search rules) w.found-is c.loop-row.invariant
      | else-rows-row-ne0 w ↦ none_found c.args.rows.now c.loop-row.row c.loop-row.found _ (search rules) w.found-is c.loop-row.invariant
    ]

pub returns : goal.returns
returns c = all_found c.args.rows.now c.loop-row.row c.loop-row.found (search rules) c.loop-row.invariant
