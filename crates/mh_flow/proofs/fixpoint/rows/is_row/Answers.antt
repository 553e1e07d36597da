use Rattle.std.proofs.Common.{sym, ◌∙◌}
use Rattle.mh_flow.proofs.RowLemmas.{row_at}
use Rattle.mh_flow.proofs.fixpoint.rows.is_row.Goals as goal

pub returns : goal.returns
returns c = λ same. sym (row_at c.args.rows.now c.args.node c.index-rows-node.result c.requires c.index-rows-node.is) ∙ c.is_alike.ensures same
