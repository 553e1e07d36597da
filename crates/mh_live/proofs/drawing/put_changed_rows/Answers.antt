use Rattle.std.specs.Prelude.{◌++◌, Bool}
use Rattle.std.proofs.Common.{ap, ◌∙◌}
use Rattle.mh_live.specs.Screen.{changed_row, row_where}
use Rattle.mh_terminal.proofs.RangeLemmas.{one_more}
use Rattle.mh_live.proofs.drawing.put_changed_rows.Goals as goal

pub loop-row-preserved : goal.loop-row-preserved
unfolding changed_row
loop-row-preserved c =
    let told = c.changed_rows-changed.ensures.each c.loop-row.row c.loop-row-test.true in
    one_more (changed_row c.args.before.now c.args.after.now) c.loop-row.row c.args.text.now c.loop-row.text c.put_row_where.new.text
    (c.in_ok-put_row_where.ensures ∙ ap (λ (b : Bool). c.loop-row.text ++ row_where b c.args.after.now c.loop-row.row) told) c.loop-row.invariant
