-- Cells, and cells behind others.
use Rattle.std.specs.Prelude.{◌≡◌, ℕ, ◌+◌, ◌-◌, ◌<◌, ◌≤◌, ◌&&◌, Bool, true, false, List, [], ◌∷◌, ◌++◌, length, replicate, refl}
use Rattle.std.proofs.Common.{ap, ◌∙◌, sym, arith, add-one, append-nil, append_assoc}
use Rattle.std.proofs.lemmas.List.{length-append}
use Rattle.mh_model.specs.declared.picture.cell.Cell.{Cell}
use Rattle.mh_look.specs.Cells.{filled}

pub same_cell : (a b c d e f : ℕ) → a ≡ d → b ≡ e → c ≡ f → ◌≡◌ {A = Cell} (record { scalar = a; fore = b; back = c }) (record { scalar = d; fore = e; back = f })
same_cell a b c d e f p q r = rw (p, q, r) refl

pub both_true : (a b : Bool) → (a && b) ≡ true → (a ≡ true) × (b ≡ true)
both_true true b e = (refl, e)
both_true false b e = absurd cc

-- one cell that is wanted
pub filled_one : (cells : List Cell) (n : ℕ) (c : Cell) → length cells < n → filled (cells ++ c ∷ []) n c ≡ filled cells n c
filled_one cells n c more =
    let long : length (cells ++ c ∷ []) ≡ length cells + 1 = length-append cells (c ∷ []) in
    let left : n - length cells ≡ (n - (length cells + 1)) + 1 = omega (arith, more) in
    ap (λ (k : ℕ). (cells ++ c ∷ []) ++ replicate (n - k) c) long
    ∙ append_assoc cells (c ∷ []) (replicate (n - (length cells + 1)) c)
    ∙ ap (λ (xs : List Cell). cells ++ xs) (step (n - (length cells + 1)))
    ∙ ap (λ (k : ℕ). cells ++ replicate k c) (sym left)
  where
    step : (k : ℕ) → c ∷ replicate k c ≡ replicate (k + 1) c
    step k = sym (ap (λ (m : ℕ). replicate m c) (add-one k))

-- there are enough
pub filled_none : (cells : List Cell) (n : ℕ) (c : Cell) → n ≤ length cells → filled cells n c ≡ cells
filled_none cells n c enough =
    let none : n - length cells ≡ 0 = omega (arith, enough) in
    ap (λ (k : ℕ). cells ++ replicate k c) none ∙ append-nil cells
