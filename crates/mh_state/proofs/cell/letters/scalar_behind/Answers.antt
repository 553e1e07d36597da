use Rattle.std.specs.Prelude.{◌<◌, length}
use Rattle.std.proofs.Common.{rules, ◌∙◌}
use Rattle.mh_state.proofs.LineLemmas.{first_behind}
use Rattle.mh_state.proofs.cell.letters.scalar_behind.Goals as goal

pub returns : goal.returns
returns c =
    let less : c.args.place < length c.args.line.now.scalars = search rules in
    c.first_scalar.ensures ∙ first_behind _ c.args.place _ _ _ less c.text.ensures c.behind_first.ensures
