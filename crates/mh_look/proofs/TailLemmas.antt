-- What is left of a slice behind its front.
use Rattle.std.specs.Prelude.{◌≡◌, ℕ, ◌-◌, List, ◌++◌, length, take, drop}
use Rattle.std.proofs.Common.{ap, ◌∙◌}
use Rattle.std.proofs.lemmas.List.{take_rest, drop_at}

abbrev pub tail : ℕ → List ℕ → List ℕ
tail n xs = take (length xs - n) (drop n xs)

-- behind a front that is so long
pub tail_at : (n : ℕ) (front back xs : List ℕ) → length front ≡ n → xs ≡ front ++ back → tail n xs ≡ back
tail_at n front back xs long e =
    take_rest xs n ∙ ap (λ (ys : List ℕ). drop n ys) e ∙ drop_at front back n long
