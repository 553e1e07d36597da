use Rattle.mh_display.proofs.RowBitLemmas.{row_added, row_kept}
use Rattle.mh_display.proofs.cells.with_row.Goals as goal

pub returns-then-wanted-clause-others : goal.returns-then-wanted-clause-others
returns-then-wanted-clause-others c = row_kept c.args.rows c.args.row c.requires

pub returns-then-wanted-clause-own : goal.returns-then-wanted-clause-own
returns-then-wanted-clause-own c = λ e. row_added c.args.rows c.args.row c.requires
