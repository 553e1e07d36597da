use Rattle.std.proofs.Common.{subst, List, Bool}
use Rattle.mh_flow.specs.Rows.{IsWord}
use Rattle.mh_flow.proofs.RowLemmas.{row_at}
use Rattle.mh_flow.proofs.fixpoint.rows.word_at.Goals as goal

pub returns : goal.returns
returns c =
    subst (λ (bs : List Bool). IsWord bs c.args.at c.word.result) (row_at c.args.rows.now c.args.node c.index-rows-node.result c.requires c.index-rows-node.is) c.word.ensures
