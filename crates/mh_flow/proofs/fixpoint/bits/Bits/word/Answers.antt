use Rattle.std.proofs.Common.{◌<◌, ◌≤◌, ◌∙◌, ℕ, subst}
use Rattle.mh_flow.proofs.RowLemmas.{found_number}
use Rattle.mh_flow.proofs.BitLemmas.{lent_word, lent_nothing}
use Rattle.mh_flow.proofs.fixpoint.bits.Bits.word.Goals as goal

pub returns-then-at-len : goal.returns-then-at-len
returns-then-at-len c =
    let within = subst (λ (n : ℕ). c.args.at < n) (c.len.ensures ∙ c.self.inside.words.ok.0) c.if-at-len.true in
    lent_word c.args.self.now c.self.inside.words.items c.args.at c.index.result.now c.self.view_is within
    (c.index.ensures ∙ found_number c.self.inside.words.items c.args.at c.index.result.now within)

pub returns-else-at-len : goal.returns-else-at-len
returns-else-at-len c =
    lent_nothing c.args.self.now c.self.inside.words.items c.args.at c.self.view_is
    (subst (λ (n : ℕ). n ≤ c.args.at) (c.len.ensures ∙ c.self.inside.words.ok.0) c.if-at-len.false)
