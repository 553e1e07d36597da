use Rattle.std.proofs.Common.{ap, ◌∙◌, length, List, Bool}
use Rattle.mh_flow.proofs.RowLemmas.{row_at}
use Rattle.mh_flow.proofs.fixpoint.rows.words_at.Goals as goal

pub returns : goal.returns
returns c =
    c.words.ensures ∙ ap (λ (bs : List Bool). length bs) (row_at c.args.rows.now c.args.node c.index-rows-node.result c.requires c.index-rows-node.is)
