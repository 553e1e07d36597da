-- Where a place is counted from: another that stands before it.
use Rattle.std.specs.Prelude.{ℕ, Bool, true, not, List, [], ◌∷◌}
use Rattle.bstr.specs.Utf8.{continues}

-- no character that began before these bytes goes on in them
abbrev pub is_clean : List ℕ → Bool
is_clean [] = true
is_clean (b ∷ bs) = not (continues b)
