-- Runs as they lie in the planes of a picture.
use Rattle.std.specs.Prelude.{ℕ, ◌+◌, ◌*◌, ◌==◌, ◌&&◌, Bool, List, [], ◌∷◌, drop, slice_index, slice_range}
use Rattle.mh_model.specs.declared.picture.cell.Cell.{Cell}
use Rattle.mh_model.specs.Planes.{Planes}
use Rattle.mh_told.specs.Frame.{Run, begun, runs_from, row_cells}

-- two cells have the same colours
abbrev pub have_colours : Planes → ℕ → ℕ → Bool
have_colours p a b = slice_index p.fores a == slice_index p.fores b && slice_index p.backs a == slice_index p.backs b

-- the cells of a row from one column up to another, with the colours of the first of them
abbrev pub stretch : Planes → ℕ → ℕ → ℕ → Run
stretch p j first end = record {
  first = first;
  fore = slice_index p.fores (j * 60 + first);
  back = slice_index p.backs (j * 60 + first);
  scalars = slice_range p.scalars (j * 60 + first) (j * 60 + end);
}

-- the text of the runs of these cells, of which the first stands in this column
abbrev pub runs_at : ℕ → List Cell → List ℕ
runs_at column [] = []
runs_at column (c ∷ cs) = runs_from (begun column c) cs

-- the runs of a row from a column on
abbrev pub runs_left : Planes → ℕ → ℕ → List ℕ
runs_left p j column = runs_at column (drop column (row_cells p j))
