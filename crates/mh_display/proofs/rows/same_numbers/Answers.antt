use Rattle.std.proofs.Common.{◌≡◌, ◌∙◌, sym, subst, ℕ, true, arith, rules, drop}
use Rattle.std.specs.Str.{bytes_eq}
use Rattle.mh_display.proofs.LaneLemmas.{told_behind, tail_same}
use Rattle.mh_display.proofs.rows.same_numbers.Goals as goal

pub loop-at-preserved : goal.loop-at-preserved
loop-at-preserved c = (
  omega (arith, c.loop-at.invariant.0),
  omega (arith, c.loop-at.invariant.0, c.loop-at-test.true),
  told_behind c.loop-at.at 8 c.args.before.now c.args.after.now (search rules) ∙ c.loop-at.invariant.2,
)

pub returns : goal.returns
returns c =
    let at : c.loop-at.at ≡ 56 = omega (arith, c.loop-at.invariant.1, c.loop-at-test.false) in
    let tail : bytes_eq (drop c.loop-at.at c.args.before.now) (drop c.loop-at.at c.args.after.now) ≡ true =
    subst (λ (n : ℕ). bytes_eq (drop n c.args.before.now) (drop n c.args.after.now) ≡ true) (sym at) (tail_same c.args.before.now c.args.after.now c.requires.long c.requires.same (search rules)) in
    sym tail ∙ c.loop-at.invariant.2
