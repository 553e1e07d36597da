use Rattle.std.proofs.Common.{◌<◌, ◌++◌, ◌∷◌, [], ap, ◌∙◌, sym, subst, ℕ, List}
use Rattle.std.specs.Prelude.{Vec}
use Rattle.std.specs.declared.alloc.Global.{Global}
use Rattle.std.proofs.lemmas.List.{length-map}
use Rattle.mh_flow.specs.Rows.{number_rows, Pushed}
use Rattle.mh_flow.proofs.RowLemmas.{found_row, set_rows, set_row, pushed}
use Rattle.mh_flow.proofs.fixpoint.rows.push_at.Goals as goal

pub returns : goal.returns
returns c =
    let same = found_row c.args.rows.now.items c.args.node c.index_mut.result.now (subst (λ (n : ℕ). c.args.node < n) c.args.rows.now.ok.0 c.requires.node) c.index_mut.ensures.value in
    let new = set_rows c.args.rows.now.items c.args.node c.push.new.self
    ∙ ap (λ (r : List ℕ). set_row (number_rows c.args.rows.now.items) c.args.node r) (c.in_ok-push.ensures.items ∙ ap (λ (r : List ℕ). r ++ c.args.number ∷ []) same) in
    subst (Pushed c.args.node c.args.number (number_rows c.args.rows.now.items)) (sym new)
    (pushed (number_rows c.args.rows.now.items) c.args.node c.args.number (subst (λ (n : ℕ). c.args.node < n) (c.args.rows.now.ok.0 ∙ sym (length-map c.args.rows.now.items (λ (r : Vec ℕ Global). r.items))) c.requires.node))
