-- A member of a list behind others.
use Rattle.std.specs.Prelude.{◌≡◌, ℕ, zero, suc, ◌<◌, List, [], ◌∷◌, drop, take, slice_get, refl}
use Rattle.std.proofs.Common.{ap, sym, ◌∙◌, arith}

pub get_dropped : {X : Type 0} (n : ℕ) (xs : List X) → slice_get (drop n xs) 0 ≡ slice_get xs n
get_dropped zero xs = refl
get_dropped (suc n) [] = refl
get_dropped (suc n) (x ∷ xs) = get_dropped n xs

get_taken : (n k : ℕ) (xs : List ℕ) → k < n → slice_get (take n xs) k ≡ slice_get xs k
get_taken zero k xs less = absurd (omega (arith, less))
get_taken (suc n) k [] less = refl
get_taken (suc n) zero (x ∷ xs) less = refl
get_taken (suc n) (suc k) (x ∷ xs) less = get_taken n k xs (omega (arith, less))

-- what stands first behind so many is the member at that place of a list that begins the same
pub first_behind : (n k : ℕ) (line text rest : List ℕ) → k < n → line ≡ take n text → rest ≡ drop k text → slice_get rest 0 ≡ slice_get line k
first_behind n k line text rest less own behind =
    ap (λ (xs : List ℕ). slice_get xs 0) behind ∙ get_dropped k text ∙ sym (get_taken n k text less)
    ∙ ap (λ (xs : List ℕ). slice_get xs k) (sym own)
