use Rattle.std.proofs.Common.{rules}
use Rattle.mh_widgets.proofs.CellLemmas.{cells_of}
use Rattle.mh_widgets.proofs.cells.Cells.of.Goals as goal

pub returns : goal.returns
returns c =
    cells_of _ _ _ c.args.list.now.entries c.front_of-some.result.now c.behind_last.result.now
    (search rules) (search rules)
