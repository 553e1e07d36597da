-- Lists that are gone through place by place. A place is counted from the first member, and may lie in front of it.
use Rattle.std.specs.Prelude.{ℕ, if◌then◌else◌, nat_lt, List, [], ◌∷◌, drop, Option, None, slice_get, ℤ, pos, negsuc}
use Rattle.mh_model.specs.Boxes.{or_zero}

-- what stands at a place, where what stands before it is taken
abbrev pub now_at : {X : Type 0} → ℤ → List X → Option X
now_at (pos n) xs = slice_get xs 0
now_at (negsuc n) xs = None

-- and what is left behind it
abbrev pub behind_at : {X : Type 0} → ℤ → List X → List X
behind_at (pos n) xs = drop 1 xs
behind_at (negsuc n) xs = xs

-- the scalar at a place of a line that has as many; a space where it has none
abbrev pub scalar_within : ℕ → ℕ → List ℕ → ℕ
scalar_within n length [] = 0x20
scalar_within n length (x ∷ xs) = if nat_lt n length then x else 0x20

abbrev pub scalar_now : ℤ → ℕ → List ℕ → ℕ
scalar_now (pos n) length xs = scalar_within n length xs
scalar_now (negsuc n) length xs = 0x20

-- the same where nothing is taken yet
abbrev pub scalar_at : ℤ → ℕ → List ℕ → ℕ
scalar_at z length xs = scalar_now z length (drop (or_zero z) xs)
