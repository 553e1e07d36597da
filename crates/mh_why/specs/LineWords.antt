-- The words of a line, which single spaces part. The name of a group may have spaces in it, so a name is what is left between the
-- words in front and those behind.
use Rattle.std.specs.Prelude.{ℕ, suc, ◌-◌, ◌*◌, ◌+◌, ◌==◌, ◌&&◌, nat_lt, Bool, not, if◌then◌else◌, List, [], ◌∷◌, length, take, Option, Some, None}
use Rattle.std.specs.Char.{is_ascii_digit}
use Rattle.std.specs.List.{prefix_len}

abbrev pub is_in_word : ℕ → Bool
is_in_word b = not (b == 32)

-- what stands before the first space; all of it where there is none
unfoldable pub first_word : List ℕ → List ℕ
first_word bs = take (prefix_len is_in_word bs) bs

-- what stands behind the first space
abbrev pub behind_first : List ℕ → List ℕ
behind_first [] = []
behind_first (b ∷ bs) = if b == 32 then bs else behind_first bs

-- what stands behind the last space of these, or the word so far where there is none
abbrev pub last_from : List ℕ → List ℕ → List ℕ
last_from word [] = word
last_from word (b ∷ bs) = last_from (if b == 32 then bs else word) bs

-- what stands behind the last space; all of it where there is none
unfoldable pub last_word : List ℕ → List ℕ
last_word bs = last_from bs bs

-- what stands before the last space
unfoldable pub before_last : List ℕ → List ℕ
before_last bs = take (length bs - suc (length (last_word bs))) bs

-- What words write.

-- the number with one more digit, if it is one and 32 bits hold it
abbrev pub with_digit : ℕ → ℕ → Option ℕ
with_digit n b = if is_ascii_digit b && nat_lt (n * 10 + (b - 48)) 4294967296 then Some (n * 10 + (b - 48)) else None

-- the number with these digits behind it
abbrev pub number_from : Option ℕ → List ℕ → Option ℕ
number_from None bs = None
number_from (Some n) [] = Some n
number_from (Some n) (b ∷ bs) = number_from (with_digit n b) bs

-- a number of 32 bits
abbrev pub number_in : List ℕ → Option ℕ
number_in [] = None
number_in (b ∷ bs) = number_from (Some 0) (b ∷ bs)
