-- The front of bytes, as readers cut it off.
use Rattle.std.specs.Prelude.{ℕ, ◌+◌, ◌==◌, ◌≡◌, Bool, not, List, ◌++◌, length, take, drop, Option, Some}
use Rattle.std.specs.List.{list_all, prefix_len}
use Rattle.mh_look.specs.Reading.{Begins}

-- the length of a text was found exactly where the bytes begin with the text
pub record IsInFront (bytes text : List ℕ) (found : Option ℕ) : Type 0 where
  pub read : (n : ℕ) → found ≡ Some n → Begins bytes text n
  pub taken : (rest : List ℕ) → bytes ≡ text ++ rest → found ≡ Some (length text)

abbrev pub is_other : ℕ → ℕ → Bool
is_other c b = not (b == c)

-- none of the bytes is this one
abbrev pub lacks : ℕ → List ℕ → Bool
lacks c bytes = list_all (is_other c) bytes

-- what stands in front of the first such byte, and behind it
unfoldable pub before : ℕ → List ℕ → List ℕ
before c bytes = take (prefix_len (is_other c) bytes) bytes

unfoldable pub behind : ℕ → List ℕ → List ℕ
behind c bytes = drop (prefix_len (is_other c) bytes + 1) bytes
