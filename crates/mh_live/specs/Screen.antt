-- What goes to a terminal so that it shows a play: the picture in its rows 1 to 36, and the lines below from 37 on.
use Rattle.std.specs.Prelude.{ℕ, ◌+◌, Bool, true, false, not, if◌then◌else◌, List, [], ◌∷◌, ◌++◌, codes, take, slice_get, Option, Some, None}
use Rattle.std.specs.Fmt.{decimal}
use Rattle.std.specs.List.{flat_map, range_with_len}
use Rattle.std.specs.Option.{unwrap_or}
use Rattle.std.specs.Str.{bytes_eq}
use Rattle.mh_model.specs.Picture.{shown}
use Rattle.mh_model.specs.Planes.{Planes}
use Rattle.mh_display.specs.Rows.{same_row}
use Rattle.mh_engine.specs.Play.{Play}
use Rattle.mh_terminal.specs.Frames.{plain, shown_row}
use Rattle.mh_live.specs.Below.{below}

-- what a terminal shows: a picture, the lines below it, and how many characters of a line
pub record Screen : Type 0 where
  pub picture : Planes
  pub lines : List (List ℕ)
  pub columns : ℕ

-- what is to be shown of a play, with the places of its faults and what is told below everything
abbrev pub screen_of : List (List ℕ) → List ℕ → ℕ → Play → Screen
screen_of places notice columns p = record {
  picture = shown p.state;
  lines = below places notice p;
  columns = columns;
}

-- Orders to the terminal.

-- the cursor goes to the beginning of a line, from 1 on
unfoldable pub move_to : ℕ → List ℕ
move_to n = 27 ∷ codes "[" ++ decimal n ++ codes ";1H"

-- the line is cleared from the cursor on
unfoldable pub clear_line : List ℕ
clear_line = 27 ∷ codes "[K"

abbrev pub clear_screen : List ℕ
clear_screen = 27 ∷ codes "[2J"

-- Rows of the picture.

unfoldable pub drawn_row : Planes → ℕ → List ℕ
drawn_row p row = move_to (row + 1) ++ shown_row false p row

unfoldable pub all_rows : Planes → List ℕ
all_rows p = flat_map (drawn_row p) (range_with_len 0 36)

abbrev pub row_where : Bool → Planes → ℕ → List ℕ
row_where true p row = drawn_row p row
row_where false p row = []

-- a row that differs from the one before
unfoldable pub changed_row : Planes → Planes → ℕ → List ℕ
changed_row before after row = row_where (not (same_row before after row)) after row

unfoldable pub changed_rows : Planes → Planes → List ℕ
changed_rows before after = flat_map (changed_row before after) (range_with_len 0 36)

-- Lines below the picture, by their places from 0 on. As much of a line is shown as fits, and a byte that would be an order
-- is U+FFFD.

unfoldable pub fitting : List ℕ → ℕ → List ℕ
fitting line width = plain (take width line)

unfoldable pub drawn_line : ℕ → List ℕ → ℕ → List ℕ
drawn_line columns line place = move_to (37 + place) ++ clear_line ++ fitting line columns

-- a line that is another than before
unfoldable pub changed_line : ℕ → List ℕ → List ℕ → ℕ → List ℕ
changed_line columns before after place = if bytes_eq before after then [] else drawn_line columns after place

-- the line at a place; where there is none, nothing
abbrev pub line_at : List (List ℕ) → ℕ → List ℕ
line_at lines place = unwrap_or (slice_get lines place) []

abbrev pub changed_at : ℕ → List (List ℕ) → List (List ℕ) → ℕ → List ℕ
changed_at columns before after place = changed_line columns (line_at before place) (line_at after place) place

unfoldable pub changed_lines : ℕ → List (List ℕ) → List (List ℕ) → List ℕ
changed_lines columns before after = flat_map (changed_at columns before after) (range_with_len 0 9)

-- Screens.

-- at first the screen is cleared, and all of it is drawn
unfoldable pub whole : Screen → List ℕ
whole s = clear_screen ++ all_rows s.picture ++ changed_lines s.columns [] s.lines

-- then the rows and lines that have changed
unfoldable pub changes : Screen → Screen → List ℕ
changes before after = changed_rows before.picture after.picture ++ changed_lines after.columns before.lines after.lines

abbrev pub drawn : Option Screen → Screen → List ℕ
drawn None after = whole after
drawn (Some before) after = changes before after

-- behind a play the cursor stands below everything
unfoldable pub end_text : List ℕ
end_text = move_to 46 ++ clear_line

-- Where the window is too small, what it wants is all that is shown.

unfoldable pub wanted_front : List ℕ
wanted_front = codes "wanted: 60 columns, 46 lines; here: "

unfoldable pub wanted_text : ℕ → ℕ → List ℕ
wanted_text rows columns =
    wanted_front ++ decimal columns ++ codes ", " ++ decimal rows

unfoldable pub small_text : ℕ → ℕ → List ℕ
small_text rows columns = clear_screen ++ move_to 1 ++ fitting (wanted_text rows columns) columns
