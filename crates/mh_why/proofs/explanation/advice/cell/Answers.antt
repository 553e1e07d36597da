use Rattle.std.specs.Prelude.{refl}
use Rattle.mh_why.proofs.AdviceLemmas.{cell_at}
use Rattle.mh_why.proofs.explanation.advice.cell.Goals as goal

pub returns : goal.returns
returns c = cell_at c.args.row.now c.args.at _ refl
