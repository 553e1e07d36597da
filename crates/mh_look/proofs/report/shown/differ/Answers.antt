use Rattle.std.proofs.Common.{sym}
use Rattle.mh_look.proofs.RowLemmas.{cells_told, none_more, do_differ, none_differ}
use Rattle.mh_look.proofs.report.shown.differ.Goals as goal

pub loop-column-preserved : goal.loop-column-preserved
loop-column-preserved c =
    none_more c.args.one.now c.args.other.now c.args.row c.loop-column.column c.loop-column-test.true
    (cells_told c.args.one.now c.args.other.now _ c.cell.result c.cell-in-loop-column.result c.is_same.result _ c.cell.ensures c.cell-in-loop-column.ensures c.is_same.ensures c.if-not-is_same.false) c.loop-column.invariant

pub returns-then-not-is_same : goal.returns-then-not-is_same
returns-then-not-is_same c =
    sym (do_differ c.args.one.now c.args.other.now c.args.row c.loop-column.column c.loop-column-test.true
    (cells_told c.args.one.now c.args.other.now _ c.cell.result c.cell-in-loop-column.result c.is_same.result _ c.cell.ensures c.cell-in-loop-column.ensures c.is_same.ensures c.if-not-is_same.true))

pub returns : goal.returns
returns c =
    sym (none_differ c.args.one.now c.args.other.now c.args.row c.loop-column.column c.loop-column-test.false c.loop-column.invariant)
