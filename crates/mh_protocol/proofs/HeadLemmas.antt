-- A header, a line further.
use Rattle.std.specs.Prelude.{◌≡◌, ◌≢◌, ℕ, zero, suc, ◌+◌, ◌-◌, ◌<◌, List, drop, Option, refl}
use Rattle.std.proofs.Common.{ap, ◌∙◌, sym, arith}
use Rattle.mh_protocol.specs.declared.head.Step.TheVariants as step_is
use Rattle.mh_protocol.specs.Heads.{after, head_in, step}

more_lines : (n : ℕ) (before : Option ℕ) (bs : List ℕ) → n ≢ 0 → head_in n before bs ≡ after (head_in (n - 1)) bs (step before bs)
more_lines zero before bs some = absurd (some refl)
more_lines (suc n) before bs some =
    let one : n ≡ suc n - 1 = omega arith in
    ap (λ (k : ℕ). after (head_in k) bs (step before bs)) one

pub line_further : (n i size : ℕ) (before told : Option ℕ) (bs rest : List ℕ) → i < n → step before bs ≡ step_is.On size told → rest ≡ drop size bs
    → head_in (n - (i + 1)) told rest ≡ head_in (n - i) before bs
line_further n i size before told bs rest within is there =
    let some : n - i ≢ 0 = λ none. omega (arith, within, none) in
    let one : n - (i + 1) ≡ n - i - 1 = omega arith in
    ap (head_in (n - (i + 1)) told) there
    ∙ ap (λ (k : ℕ). head_in k told (drop size bs)) one
    ∙ sym (more_lines (n - i) before bs some ∙ ap (after (head_in (n - i - 1)) bs) is)
