-- Lemmas on the numbers that digits write.
use Rattle.std.proofs.Common.{◌≡◌, ℕ, suc, ◌+◌, ◌-◌, ◌*◌, ◌<◌, ◌≤◌, List, [], ◌∷◌, length, get_or, drop, arith, drop-cons}
use Rattle.mh_text.specs.Bytes.{number_behind}

-- more digits never make a number smaller
pub number_behind_grows : (n : ℕ) (ds : List ℕ) → n ≤ number_behind n ds
number_behind_grows n [] = omega arith
number_behind_grows n (d ∷ ds) = omega (arith, number_behind_grows (n * 10 + (d - 48)) ds)

-- a number that is too large stays so, whatever digits are left
pub number_behind_past : (limit n i : ℕ) (ds : List ℕ) → i < length ds → limit < n * 10 + (get_or ds i 0 - 48)
    → number_behind n (drop i ds) ≡ number_behind 0 ds → limit < number_behind 0 ds
number_behind_past limit n i ds within above rest =
    let here = rw (drop-cons ds i 0) at rest in
    omega (arith, here, number_behind_grows (n * 10 + (get_or ds i 0 - 48)) (drop (suc i) ds))
