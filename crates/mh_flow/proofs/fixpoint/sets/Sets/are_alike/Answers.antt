use Rattle.std.proofs.Common.{◌<◌, ℕ, List, Bool, ap, sym, subst, ◌∙◌}
use Rattle.mh_flow.specs.Rows.{row}
use Rattle.mh_flow.proofs.RowLemmas.{row_at}
use Rattle.mh_flow.proofs.fixpoint.sets.Sets.are_alike.Goals as goal

pub returns : goal.returns
returns c = λ same.
    let first = subst (λ (n : ℕ). c.args.first < n) (c.len.ensures ∙ c.self.inside.rows.ok.0) c.if-len-first.false in
    let second = subst (λ (n : ℕ). c.args.second < n) (c.len-else-len-first.ensures ∙ c.self.inside.rows.ok.0) c.if-len-second.false in
    ap (λ (rows : List (List Bool)). row rows c.args.first) (sym c.self.view_is)
    ∙ sym (row_at c.self.inside.rows.items c.args.first c.index.result.now first c.index.ensures)
    ∙ c.is_alike.ensures same
    ∙ row_at c.self.inside.rows.items c.args.second c.index-2.result.now second c.index-2.ensures
    ∙ ap (λ (rows : List (List Bool)). row rows c.args.second) c.self.view_is
