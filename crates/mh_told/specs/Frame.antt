-- How a frame is printed: the rows that differ from the frame before, each as its runs of cells.
use Rattle.std.specs.Prelude.{ℕ, ◌+◌, ◌-◌, ◌*◌, ◌==◌, Bool, ◌&&◌, not, if◌then◌else◌, List, [], ◌∷◌, ◌++◌, length, take, map, codes}
use Rattle.std.specs.List.{suffix_len, list_all, list_any, flat_map, range_with_len, zip}
use Rattle.std.specs.Fmt.{decimal}
use Rattle.mh_model.specs.declared.picture.cell.Cell.{Cell}
use Rattle.mh_model.specs.Planes.{Planes}
use Rattle.mh_model.specs.Picture.{cell_of}
use Rattle.mh_told.specs.Printing.{two_digits, hex_colour, quoted}

-- Runs: stretches of cells of one row with the same colours.

-- the column of the first cell, the two colours, and the characters
pub record Run : Type 0 where
  pub first : ℕ
  pub fore : ℕ
  pub back : ℕ
  pub scalars : List ℕ

-- the run of this one cell
abbrev pub begun : ℕ → Cell → Run
begun column c = record { first = column; fore = c.fore; back = c.back; scalars = c.scalar ∷ [] }

-- the run and one more cell
abbrev pub longer : Run → Cell → Run
longer r c = record r { scalars = r.scalars ++ c.scalar ∷ [] }

-- a cell has the colours of the run
abbrev pub fits : Run → Cell → Bool
fits r c = r.fore == c.fore && r.back == c.back

-- the column of a run's last cell, and the one behind it
abbrev pub last : Run → ℕ
last r = r.first + length r.scalars - 1

abbrev pub behind : Run → ℕ
behind r = r.first + length r.scalars

-- The text of a run.

abbrev pub is_space : ℕ → Bool
is_space c = c == 32

-- black spaces on black are not printed
abbrev pub is_blank : Run → Bool
is_blank r = r.fore == 0 && r.back == 0 && list_all is_space r.scalars

-- how many characters are printed: not the spaces at the end
abbrev pub shown_length : List ℕ → ℕ
shown_length cs = length cs - suffix_len is_space cs

-- the characters between quotation marks
abbrev pub characters : List ℕ → List ℕ
characters cs = codes " \"" ++ flat_map quoted (take (shown_length cs) cs) ++ codes "\""

-- where the run lies, and its two colours
abbrev pub place : Run → List ℕ
place r = codes " " ++ decimal r.first ++ codes "-" ++ decimal (last r) ++ codes " " ++ hex_colour r.fore ++ codes "/" ++ hex_colour r.back

unfoldable pub run_text : Run → List ℕ
run_text r = if is_blank r then [] else place r ++ characters r.scalars

-- Rows.

-- the text of this run, as far as it goes on in these cells, and of the runs behind it
abbrev pub runs_from : Run → List Cell → List ℕ
runs_from r [] = run_text r
runs_from r (c ∷ cs) = if fits r c then runs_from (longer r c) cs else run_text r ++ runs_from (begun (behind r) c) cs

abbrev pub runs : List Cell → List ℕ
runs [] = []
runs (c ∷ cs) = runs_from (begun 0 c) cs

-- the cells of a row
unfoldable pub row_cells : Planes → ℕ → List Cell
row_cells p j = map (λ i. cell_of p (j * 60 + i)) (range_with_len 0 60)

abbrev pub same_cell : Cell → Cell → Bool
same_cell a b = a.scalar == b.scalar && a.fore == b.fore && a.back == b.back

-- two rows differ in one of their cells
abbrev pub differ : List Cell → List Cell → Bool
differ xs ys = list_any (λ pair. not (same_cell pair.0 pair.1)) (zip xs ys)

abbrev pub row_line : ℕ → List Cell → List ℕ
row_line j cells = codes "row " ++ two_digits j ++ codes ":" ++ runs cells ++ 10 ∷ []

-- the line of a row that differs from the one before; nothing for a row that is the same
unfoldable pub row_change : Planes → Planes → ℕ → List ℕ
row_change before after j = if differ (row_cells before j) (row_cells after j) then row_line j (row_cells after j) else []

-- the rows of a frame, from the top
unfoldable pub row_changes : Planes → Planes → List ℕ
row_changes before after = flat_map (row_change before after) (range_with_len 0 36)

-- a frame: its number, and the rows that differ from the frame before
abbrev pub frame_text : ℕ → Planes → Planes → List ℕ
frame_text k before after = codes "frame " ++ decimal k ++ 10 ∷ [] ++ row_changes before after
