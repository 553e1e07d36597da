-- Cells of a picture, copied from the beginning of a row on.
use Rattle.std.specs.Prelude.{◌≡◌, ℕ, ◌+◌, ◌*◌, ◌-◌, ◌<◌, Bool, ◌&&◌, nat_lt, nat_le, List, length, slice_index_or}
use Rattle.std.specs.Bool.{MatchBool}
use Rattle.mh_model.specs.Picture.{cell_of}
use Rattle.mh_model.specs.Planes.{Planes}
use Rattle.mh_crossing.specs.Answers.{good, out_of_range}
use Rattle.redplay_page.specs.declared.showing.Cell.{Cell}

-- what stands for a cell that is not there
abbrev pub no_cell : Cell
no_cell = record { scalar = 0; fore = 0; back = 0 }

-- a cell of the picture, by its row times 60 and its column
abbrev pub cell_at : Planes → ℕ → Cell
cell_at p at = record { scalar = (cell_of p at).scalar; fore = (cell_of p at).fore; back = (cell_of p at).back }

-- there are so many cells from the beginning of this row on
abbrev pub has_cells : ℕ → ℕ → Bool
has_cells row count = nat_lt row 36 && nat_le count (2160 - 60 * row)

-- the places have the cells from the beginning of the row on
abbrev pub HasCells : Planes → ℕ → List Cell → List Cell → Type 0
HasCells p row before after =
    (length after ≡ length before) × ((j : ℕ) → j < length before → slice_index_or after j no_cell ≡ cell_at p (60 * row + j))

-- the places have them, if there are so many; else they are left as they were
abbrev pub AreCells : Planes → ℕ → List Cell → List Cell → ℕ → Type 0
AreCells p row before after n =
    MatchBool (has_cells row (length before)) ((n ≡ good) × HasCells p row before after) ((n ≡ out_of_range) × (after ≡ before))
