use Rattle.std.proofs.Common.{arith}
use Rattle.std.proofs.lemmas.Result.{on_ok_weaker}
use Rattle.mh_terminal.specs.Frames.{row_end, shown_cell, shown_row}
use Rattle.mh_terminal.proofs.RangeLemmas.{one_more, closed}
use Rattle.mh_terminal.proofs.frame.put_row.Goals as goal

pub loop-column-preserved : goal.loop-column-preserved
loop-column-preserved c = one_more (shown_cell c.args.plain c.args.picture.now c.args.row) c.loop-column.column c.args.text.now c.loop-column.text c.put_cell.new.text c.in_ok-put_cell.ensures c.loop-column.invariant

pub returns : goal.returns
unfolding shown_row
returns c =
    on_ok_weaker c.put_row_end.result
    (closed (shown_cell c.args.plain c.args.picture.now c.args.row) c.loop-column.column 60 c.args.text.now c.loop-column.text c.put_row_end.new.text (row_end c.args.plain) (omega arith) c.loop-column.invariant)
    c.put_row_end.ensures
