use Rattle.std.proofs.Common.{rules, ap, ◌≡◌, ◌∙◌, ◌<◌, length, List, ℕ, sym, subst}
use Rattle.mh_flow.proofs.RowLemmas.{found_row, found_number}
use Rattle.mh_flow.proofs.fixpoint.rows.number_at.Goals as goal

pub index-requires : goal.index-requires
index-requires c =
    let same = found_row c.args.rows.now c.args.node c.index-rows-node.result c.requires.node c.index-rows-node.is in
    subst (λ (n : ℕ). c.args.place < n) (ap (λ (t : List ℕ). length t) (sym same) ∙ sym c.index-rows-node.result.ok.0) c.requires.place

pub returns : goal.returns
returns c =
    let same = found_row c.args.rows.now c.args.node c.index-rows-node.result c.requires.node c.index-rows-node.is in
    c.index.ensures ∙ ap (λ (t : List ℕ). Rattle.std.proofs.Common.get_or t c.args.place c.index.result.now) same
    ∙ found_number _ c.args.place c.index.result.now c.requires.place
