use Rattle.std.proofs.lemmas.Grind.{common_steps}
use Rattle.std.proofs.Common.{◌∙◌, sym, arith, append-nil, true, false}
use Rattle.mh_report.proofs.ChangeLemmas.{one_more}
use Rattle.mh_told.specs.Frame.{row_changes}
use Rattle.mh_report.proofs.report.put_changes.Goals as goal
use Rattle.mh_report.proofs.report.put_changes.Goals.{then-changed-row+in_ok-put_row, else-changed-row}

pub loop-row-preserved : goal.loop-row-preserved
loop-row-preserved c =
    let told = c.changed_rows-changed.ensures.each c.loop-row.row c.loop-row-test.true in
    elim c.if-changed-row.branch [
      | then-changed-row+in_ok-put_row w ↦ one_more c.args.before.now c.args.after.now c.loop-row.row true _ _ _ c.cells.ensures.whole c.cells-2.ensures.whole c.loop-row-test.true (sym w.if-changed-row.true ∙ told) (w.text-is ∙ w.in_ok-put_row.ensures) c.loop-row.invariant
      | else-changed-row w ↦ one_more c.args.before.now c.args.after.now c.loop-row.row false _ _ _ c.cells.ensures.whole c.cells-2.ensures.whole c.loop-row-test.true (sym w.if-changed-row.false ∙ told) (w.text-is ∙ sym (append-nil c.loop-row.text)) c.loop-row.invariant
    ]

pub returns : goal.returns
unfolding row_changes
returns c = grind (arith, common_steps)
