use Rattle.mh_live.specs.Screen.{drawn_row}
use Rattle.mh_terminal.proofs.RangeLemmas.{one_more}
use Rattle.mh_live.proofs.drawing.put_rows.Goals as goal

pub loop-row-preserved : goal.loop-row-preserved
loop-row-preserved c = one_more (drawn_row c.args.picture.now) c.loop-row.row c.args.text.now c.loop-row.text c.put_drawn_row.new.text c.in_ok-put_drawn_row.ensures c.loop-row.invariant
