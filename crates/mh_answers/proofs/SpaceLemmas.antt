-- Spaces, one more.
use Rattle.std.proofs.Common.{◌≡◌, ℕ, zero, suc, ◌+◌, [], ◌∷◌, ◌++◌, List, refl, ap, ◌∙◌, arith}
use Rattle.mh_edit.specs.Layout.{spaces}

behind : (n : ℕ) → spaces n ++ 32 ∷ [] ≡ spaces (suc n)
behind zero = refl
behind (suc n) = ap (λ (x : List ℕ). 32 ∷ x) (behind n)

pub one_more : (n : ℕ) → spaces n ++ 32 ∷ [] ≡ spaces (n + 1)
one_more n = let more : suc n ≡ n + 1 = omega arith in behind n ∙ ap spaces more
