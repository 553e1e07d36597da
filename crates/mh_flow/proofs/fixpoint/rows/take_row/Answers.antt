use Rattle.std.proofs.Common.{◌<◌, ◌∙◌, sym, subst, ap, ℕ, List, Bool}
use Rattle.mh_flow.specs.Rows.{Emptied}
use Rattle.mh_flow.proofs.RowLemmas.{row_at, set_row_at, set_row, emptied}
use Rattle.mh_flow.proofs.fixpoint.rows.take_row.Goals as goal

pub returns-clause-row : goal.returns-clause-row
returns-clause-row c =
    let within = subst (λ (n : ℕ). c.args.node < n) c.args.rows.now.ok.0 c.requires in
    c.replace.ensures.value ∙ row_at c.args.rows.now.items c.args.node c.index_mut.result.now within c.index_mut.ensures.value

pub returns-clause-left : goal.returns-clause-left
returns-clause-left c =
    let within = subst (λ (n : ℕ). c.args.node < n) c.args.rows.now.ok.0 c.requires in
    let new = set_row_at c.args.rows.now.items c.args.node c.replace.new.dest
    ∙ ap (λ (bs : List Bool). set_row c.args.rows.now.items c.args.node bs) (c.replace.ensures.after ∙ c.new.ensures) in
    subst (Emptied c.args.node c.args.rows.now.items) (sym new) (emptied c.args.rows.now.items c.args.node within)
