-- The word that is mixed from the bytes of a name: names that differ in it are not the same, and a hash needs nothing more of them.
use Rattle.std.specs.Prelude.{ℕ, ◌+◌, ◌*◌, ◌^◌, ◌%◌, List, [], ◌∷◌}

-- one byte more
unfoldable pub mixed_with : ℕ → ℕ → ℕ
mixed_with word b = (word * 1099511628211 % 2 ^ 64 + b) % 2 ^ 64

abbrev pub mixed_onto : ℕ → List ℕ → ℕ
mixed_onto word [] = word
mixed_onto word (b ∷ bs) = mixed_onto (mixed_with word b) bs

abbrev pub mixed : List ℕ → ℕ
mixed bs = mixed_onto 14695981039346656037 bs
