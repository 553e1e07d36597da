-- The scalars of a text: its bytes read as UTF-8, with what takes no cell taken out.
use Rattle.std.specs.Prelude.{ℕ, zero, suc, ◌+◌, ◌==◌, nat_lt, nat_le, Bool, ◌&&◌, ◌||◌, not, if◌then◌else◌, List, [], ◌∷◌, ◌++◌, length, drop, Option, Some, None, slice_index}
use Rattle.bstr.specs.Utf8.{decoded}

-- the number lies in this stretch
abbrev pub is_between : ℕ → ℕ → ℕ → Bool
is_between first last n = nat_le first n && nat_le n last

-- how many bytes the escape at the front takes: 1B, a byte from 40 to 5E, a length and as many bytes; 1B and a byte from 60 to 7E; else 1B alone
abbrev pub escape_size : List ℕ → ℕ
escape_size bs =
    if is_between 0x40 0x5E (slice_index bs 1) then 3 + slice_index bs 2
    else (if is_between 0x60 0x7E (slice_index bs 1) then 2 else 1)

-- a byte at which no scalar begins is U+FFFD by itself
abbrev pub scalar_or_bad : Option ℕ → ℕ → Option ℕ × ℕ
scalar_or_bad None size = (Some 0xFFFD, 1)
scalar_or_bad (Some c) size = (Some c, size)

-- what stands at the front of these bytes: the scalar, if there is one, and how many bytes it takes
unfoldable pub piece : List ℕ → Option ℕ × ℕ
piece bs =
    if length bs == 0 then (None, 0)
    else (if slice_index bs 0 == 0x1B then (None, escape_size bs)
    else scalar_or_bad (decoded bs).char (decoded bs).size)

-- the control characters take no cell; 0D, which parts paragraphs, stays in
abbrev pub takes_no_cell : ℕ → Bool
takes_no_cell c = not (c == 0x0D) && (nat_lt c 0x20 || is_between 0x7F 0x9F c)

abbrev pub kept : Option ℕ → List ℕ
kept None = []
kept (Some c) = if takes_no_cell c then [] else c ∷ []

-- the scalars of as many pieces
unfoldable pub scalars_in : ℕ → List ℕ → List ℕ
scalars_in zero bs = []
scalars_in (suc n) bs = kept (piece bs).0 ++ scalars_in n (drop (piece bs).1 bs)

-- no piece of a text is empty, so it has no more pieces than bytes
abbrev pub scalars_of : List ℕ → List ℕ
scalars_of bs = scalars_in (length bs) bs
