use Rattle.std.proofs.Common.{◌≡◌, ◌<◌, ◌≤◌, ap, ◌∙◌, subst, ℕ, List, Bool}
use Rattle.std.specs.Prelude.{IfOk}
use Rattle.mh_flow.specs.Rows.{places_from}
use Rattle.mh_flow.specs.Sets.{members_of}
use Rattle.mh_flow.proofs.RowLemmas.{row_at, row_past_end}
use Rattle.mh_flow.proofs.fixpoint.sets.Sets.members.Goals as goal

pub returns-then-node-len : goal.returns-then-node-len
returns-then-node-len c =
    let within = subst (λ (n : ℕ). c.args.node < n) (c.len.ensures ∙ c.self.inside.rows.ok.0) c.if-node-len.true in
    let same = ap (λ (bs : List Bool). places_from 0 bs) (row_at c.self.inside.rows.items c.args.node c.index.result.now within c.index.ensures)
    ∙ ap (λ (rows : List (List Bool)). members_of rows c.args.node) c.self.view_is in
    subst (λ (t : List ℕ). IfOk c.places.result (λ found. found.items ≡ t)) same c.places.ensures

pub returns-else-node-len : goal.returns-else-node-len
returns-else-node-len c =
    let past = subst (λ (n : ℕ). n ≤ c.args.node) (c.len.ensures ∙ c.self.inside.rows.ok.0) c.if-node-len.false in
    c.new.ensures.items ∙ ap (λ (bs : List Bool). places_from 0 bs) (row_past_end c.self.inside.rows.items c.args.node past)
    ∙ ap (λ (rows : List (List Bool)). members_of rows c.args.node) c.self.view_is
