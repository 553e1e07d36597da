use Rattle.std.proofs.Common.{◌∙◌, ap, sym}
use Rattle.std.specs.List.{list_all}
use Rattle.mh_look.specs.Report.{is_shown}
use Rattle.mh_look.proofs.RowLemmas.{all_more, not_all, whole_row}
use Rattle.mh_look.proofs.report.shown.is_row_shown.Goals as goal

pub loop-column-preserved : goal.loop-column-preserved
loop-column-preserved c =
    all_more is_shown c.args.picture.now c.args.row c.loop-column.column c.loop-column-test.true
    (ap is_shown (sym c.cell.ensures) ∙ sym c.is_shown.ensures ∙ c.if-not-is_shown.false) c.loop-column.invariant

pub returns-then-not-is_shown : goal.returns-then-not-is_shown
returns-then-not-is_shown c =
    sym (not_all is_shown c.args.picture.now c.args.row c.loop-column.column c.loop-column-test.true
    (ap is_shown (sym c.cell.ensures) ∙ sym c.is_shown.ensures ∙ c.if-not-is_shown.true))

pub returns : goal.returns
returns c =
    sym (ap (list_all is_shown) (sym (whole_row c.args.picture.now c.args.row c.loop-column.column c.loop-column-test.false)) ∙ c.loop-column.invariant)
