use Rattle.std.proofs.Common.{rules, ◌≡◌, ◌<◌, ◌≤◌, ap, ◌∙◌, subst, ℕ, List, Bool, nat_lt, false}
use Rattle.mh_flow.specs.Rows.{is_at, has}
use Rattle.mh_flow.proofs.RowLemmas.{row_at, row_past_end}
use Rattle.mh_flow.proofs.fixpoint.sets.Sets.has.Goals as goal

pub returns-then-node-len : goal.returns-then-node-len
returns-then-node-len c =
    let within = subst (λ (n : ℕ). c.args.node < n) (c.len.ensures ∙ c.self.inside.rows.ok.0) c.if-node-len.true in
    c.has.ensures ∙ ap (λ (bs : List Bool). is_at bs c.args.member) (row_at c.self.inside.rows.items c.args.node c.index.result.now within c.index.ensures)
    ∙ ap (λ (rows : List (List Bool)). has rows c.args.node c.args.member) c.self.view_is

pub returns-else-node-len : goal.returns-else-node-len
returns-else-node-len c =
    let past = subst (λ (n : ℕ). n ≤ c.args.node) (c.len.ensures ∙ c.self.inside.rows.ok.0) c.if-node-len.false in
    let no : nat_lt c.args.node c.len.result ≡ false = search (rules, c.if-node-len.false) in
    no ∙ ap (λ (bs : List Bool). is_at bs c.args.member) (row_past_end c.self.inside.rows.items c.args.node past)
    ∙ ap (λ (rows : List (List Bool)). has rows c.args.node c.args.member) c.self.view_is
