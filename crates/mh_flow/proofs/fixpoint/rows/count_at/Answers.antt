use Rattle.std.proofs.Common.{ap, ◌∙◌, length, List, ℕ}
use Rattle.mh_flow.proofs.RowLemmas.{found_row}
use Rattle.mh_flow.proofs.fixpoint.rows.count_at.Goals as goal

pub returns : goal.returns
returns c =
    let same = found_row c.args.rows.now c.args.node c.index-rows-node.result c.requires c.index-rows-node.is in
    c.len.ensures ∙ c.index-rows-node.result.ok.0 ∙ ap (λ (t : List ℕ). length t) same
