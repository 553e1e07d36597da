-- A keyword that stands in a string: the mark that ends the string seems to be missing in front of it.
use Rattle.std.specs.Prelude.{ℕ, ◌-◌, ◌==◌, not, if◌then◌else◌, List, [], ◌∷◌, length, slice_get, take, drop, Option, Some, None}
use Rattle.std.specs.List.{prefix_len}
use Rattle.std.specs.Option.{option_map_or}
use Rattle.mh_text.specs.Bytes.{is_letter_or_digit}
use Rattle.mh_misread.specs.declared.name.Name.{Name}
use Rattle.mh_misread.specs.declared.piece.Piece.{Piece}
use Rattle.mh_misread.specs.Names.{keyword_named}

-- the keyword with which these bytes begin
abbrev pub keyword_here : List ℕ → Option Name
keyword_here [] = None
keyword_here (b ∷ bs) = if b == 58 then keyword_named (take (prefix_len is_letter_or_digit bs) bs) else None

-- the first of two
abbrev pub or_later : Option Name → Option Name → Option Name
or_later (Some n) later = Some n
or_later None later = later

-- the first keyword in these bytes that a table has
unfoldable pub first_keyword : List ℕ → Option Name
first_keyword [] = None
first_keyword (b ∷ bs) = or_later (keyword_here (b ∷ bs)) (first_keyword bs)

-- where the last of these tokens begins
abbrev pub last_start : List Piece → ℕ
last_start ps = option_map_or (λ (p : Piece). p.start) (slice_get ps (length ps - 1)) 0

-- the bytes up to the end of their first line
unfoldable pub line_of : List ℕ → List ℕ
line_of bs = take (prefix_len (λ b. not (b == 10)) bs) bs
