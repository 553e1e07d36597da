use Rattle.std.proofs.Common.{arith, ◌≡◌, ◌==◌, ◌*◌, ℕ, length, ap, ◌∙◌, sym, eqb-true}
use Rattle.mh_flow.proofs.BitLemmas.{no_bits_laid, laid_lent}
use Rattle.mh_flow.proofs.fixpoint.bits.Bits.lay_out.Goals as goal

pub returns-in_ok-push_zeros : goal.returns-in_ok-push_zeros
returns-in_ok-push_zeros c =
    let empty : length c.self.inside.words.items ≡ 0 = eqb-true (length c.self.inside.words.items) 0 (ap (λ (k : ℕ). k == 0) (sym c.self.inside.words.ok.0) ∙ sym c.is_empty.ensures ∙ c.if-is_empty.true) in
    no_bits_laid c.args.self.now c.self.inside.words.items c.push_zeros.new.words.items c.args.words c.self.view_is empty c.in_ok-push_zeros.ensures.zeros

pub returns-else-is_empty : goal.returns-else-is_empty
returns-else-is_empty c =
    laid_lent c.args.self.now c.self.inside.words.items (64 * c.args.words) c.self.view_is
    (ap (λ (k : ℕ). k == 0) (sym c.self.inside.words.ok.0) ∙ sym c.is_empty.ensures ∙ c.if-is_empty.false)

pub invariant_of-self-in_err-push_zeros : goal.invariant_of-self-in_err-push_zeros
invariant_of-self-in_err-push_zeros c =
    let empty : length c.self.inside.words.items ≡ 0 = eqb-true (length c.self.inside.words.items) 0 (ap (λ (k : ℕ). k == 0) (sym c.self.inside.words.ok.0) ∙ sym c.is_empty.ensures ∙ c.if-is_empty.true) in
    omega (arith, c.requires, empty, c.push_zeros.ensures.short)
