use Rattle.std.proofs.Common.{sym, ◌∙◌}
use Rattle.mh_flow.proofs.RowLemmas.{row_at}
use Rattle.mh_flow.proofs.fixpoint.rows.are_rows_alike.Goals as goal

pub returns : goal.returns
returns c = λ same.
    sym (row_at c.args.rows.now c.args.first c.index-rows-first.result c.requires.first c.index-rows-first.is)
    ∙ c.is_alike.ensures same
    ∙ row_at c.args.rows.now c.args.second c.index-rows-second.result c.requires.second c.index-rows-second.is
