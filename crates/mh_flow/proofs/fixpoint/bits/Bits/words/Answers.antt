use Rattle.std.proofs.Common.{◌*◌, ◌∙◌, ℕ, length, ap, sym}
use Rattle.mh_flow.proofs.BitLemmas.{lent_length}
use Rattle.mh_flow.proofs.fixpoint.bits.Bits.words.Goals as goal

pub returns : goal.returns
returns c =
    ap (λ (n : ℕ). 64 * n) (c.len.ensures ∙ c.self.inside.words.ok.0) ∙ sym (lent_length c.args.self.now c.self.inside.words.items (64 * length c.self.inside.words.items) c.self.view_is)
