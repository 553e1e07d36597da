use Rattle.std.proofs.Common.{◌∙◌, ap, arith, List}
use Rattle.mh_model.specs.declared.picture.cell.Cell.{Cell}
use Rattle.mh_look.specs.Cells.{filled}
use Rattle.mh_look.proofs.CellLemmas.{filled_one}
use Rattle.mh_look.proofs.report.run.fill_up.Goals as goal

pub loop-cell-preserved : goal.loop-cell-preserved
loop-cell-preserved c =
    ap (λ (cells : List Cell). filled cells c.args.count c.args.cell) c.in_ok-push.ensures.items
    ∙ filled_one c.loop-cell.cells.items c.args.count c.args.cell (omega arith)
    ∙ c.loop-cell.invariant
