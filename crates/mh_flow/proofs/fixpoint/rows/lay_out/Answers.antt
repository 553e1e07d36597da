use Rattle.std.proofs.Common.{◌<◌, ◌*◌, ap, ◌∙◌, sym, subst, ℕ, List, Bool}
use Rattle.mh_flow.specs.Rows.{laid, LaidOut}
use Rattle.mh_flow.proofs.RowLemmas.{row_at, set_row_at, set_row, laid_out}
use Rattle.mh_flow.proofs.fixpoint.rows.lay_out.Goals as goal

pub returns : goal.returns
returns c =
    let within = subst (λ (n : ℕ). c.args.node < n) c.args.rows.now.ok.0 c.requires.node in
    let same = row_at c.args.rows.now.items c.args.node c.index_mut.result.now within c.index_mut.ensures.value in
    let new = set_row_at c.args.rows.now.items c.args.node c.lay_out.new.self
    ∙ ap (λ (bs : List Bool). set_row c.args.rows.now.items c.args.node bs) (c.in_ok-lay_out.ensures ∙ ap (λ (bs : List Bool). laid (64 * c.args.words) bs) same) in
    subst (LaidOut (64 * c.args.words) c.args.node c.args.rows.now.items) (sym new)
    (laid_out c.args.rows.now.items (64 * c.args.words) c.args.node within c.requires.row)
