-- What a terminal is given to show a picture.
use Rattle.std.specs.Prelude.{ℕ, ◌+◌, ◌-◌, ◌*◌, ◌/◌, ◌%◌, ◌==◌, Bool, ◌&&◌, ◌||◌, not, nat_le, nat_lt, if◌then◌else◌, List, [], ◌∷◌, ◌++◌, codes, slice_index}
use Rattle.std.specs.List.{flat_map, range_with_len}
use Rattle.std.specs.Fmt.{decimal}
use Rattle.bstr.specs.Utf8.{lossy_chars}
use Rattle.mh_model.specs.Planes.{Planes}
use Rattle.mh_told.specs.Printing.{character}
use Rattle.mh_told.specs.Stretch.{have_colours}

-- Characters.

-- a character by which a terminal is told what to do
abbrev pub is_order : ℕ → Bool
is_order c = nat_lt c 32 || (nat_le 127 c && nat_lt c 160)

-- the character that stands for another: U+FFFD for an order
abbrev pub harmless : ℕ → ℕ
harmless c = if is_order c then 65533 else c

-- the bytes as text without orders; a byte that is of no character is U+FFFD
abbrev pub plain : List ℕ → List ℕ
plain bs = flat_map (λ c. character (harmless c)) (lossy_chars bs)

-- Colours of 24 bits.

abbrev pub red : ℕ → ℕ
red c = c / 65536 % 256

abbrev pub green : ℕ → ℕ
green c = c / 256 % 256

abbrev pub blue : ℕ → ℕ
blue c = c % 256

-- how much red, green and blue there is
unfoldable pub colour_parts : ℕ → List ℕ
colour_parts c = decimal (red c) ++ codes ";" ++ decimal (green c) ++ codes ";" ++ decimal (blue c)

-- the order to write in this colour (38), or on it (48)
unfoldable pub colour_order : List ℕ → ℕ → List ℕ
colour_order which c = 27 ∷ codes "[" ++ which ++ codes ";2;" ++ colour_parts c ++ codes "m"

unfoldable pub colour_orders : ℕ → ℕ → List ℕ
colour_orders fore back = colour_order (codes "38") fore ++ colour_order (codes "48") back

-- Cells and rows.

-- where colours are said: at the first cell of a row, and where they differ from those of the cell before
abbrev pub turns : Planes → ℕ → ℕ → Bool
turns p row column = column == 0 || not (have_colours p (row * 60 + column - 1) (row * 60 + column))

-- the colours of a cell where they are said; a plain one has none
unfoldable pub turn : Bool → Planes → ℕ → ℕ → List ℕ
turn plain p row column =
    if plain then [] else (if turns p row column then colour_orders (slice_index p.fores (row * 60 + column)) (slice_index p.backs (row * 60 + column)) else [])

-- without colours a sign stands for a cell that has a colour and no character: U+2591
abbrev pub is_bare : ℕ → ℕ → Bool
is_bare scalar back = scalar == 32 && not (back == 0)

abbrev pub sign : Bool → ℕ → ℕ → ℕ
sign plain scalar back = if plain then (if is_bare scalar back then 9617 else scalar) else scalar

unfoldable pub shown_cell : Bool → Planes → ℕ → ℕ → List ℕ
shown_cell plain p row column =
    turn plain p row column ++ character (harmless (sign plain (slice_index p.scalars (row * 60 + column)) (slice_index p.backs (row * 60 + column))))

-- a row ends with the order to go back to the colours that the terminal had
unfoldable pub row_end : Bool → List ℕ
row_end plain = if plain then 10 ∷ [] else 27 ∷ codes "[0m" ++ 10 ∷ []

unfoldable pub shown_row : Bool → Planes → ℕ → List ℕ
shown_row plain p row = flat_map (shown_cell plain p row) (range_with_len 0 60) ++ row_end plain

unfoldable pub shown_rows : Bool → Planes → List ℕ
shown_rows plain p = flat_map (shown_row plain p) (range_with_len 0 36)

unfoldable pub shown_frame : Bool → ℕ → Planes → List ℕ
shown_frame plain k p = codes "frame " ++ decimal k ++ 10 ∷ [] ++ shown_rows plain p
