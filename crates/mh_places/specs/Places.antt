-- Places in texts: the line and the column, both from 1 on; a column is a character.
use Rattle.std.specs.Prelude.{ℕ, ◌+◌, ◌-◌, ◌==◌, Bool, not, List, ◌++◌, codes, drop, length, take}
use Rattle.std.specs.Fmt.{decimal}
use Rattle.std.specs.List.{count_by, suffix_len}
use Rattle.bstr.specs.Utf8.{lossy_chars}
use Rattle.mh_places.specs.declared.place.Place.{Place}

abbrev pub is_no_feed : ℕ → Bool
is_no_feed b = not (b == 10)

-- what stands behind the last line feed
abbrev pub last_line : List ℕ → List ℕ
last_line bs = drop (length bs - suffix_len is_no_feed bs) bs

-- where these bytes end
abbrev pub place_behind : List ℕ → Place
place_behind bs = record { line = 1 + count_by (λ b. b == 10) bs; column = 1 + length (lossy_chars (last_line bs)) }

-- where the byte with this number stands
abbrev pub place_at : List ℕ → ℕ → Place
place_at bs offset = place_behind (take offset bs)

unfoldable pub place_text : Place → List ℕ
place_text p = decimal p.line ++ codes ":" ++ decimal p.column
