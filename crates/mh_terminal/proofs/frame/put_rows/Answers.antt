use Rattle.mh_terminal.specs.Frames.{shown_row}
use Rattle.mh_terminal.proofs.RangeLemmas.{one_more}
use Rattle.mh_terminal.proofs.frame.put_rows.Goals as goal

pub loop-row-preserved : goal.loop-row-preserved
loop-row-preserved c = one_more (shown_row c.args.plain c.args.picture.now) c.loop-row.row c.args.text.now c.loop-row.text c.put_row.new.text c.in_ok-put_row.ensures c.loop-row.invariant
