-- Drawings, and the cells that they paint. A drawn line takes equal steps from the cell of one end to that of the
-- other.
use Rattle.std.specs.Prelude.{ℕ, zero, suc, ◌*◌, ◌==◌, nat_le, Bool, ◌&&◌, ◌||◌, if◌then◌else◌, List, [], ◌∷◌, Option, None, ℤ, pos, ◌+ℤ◌, ◌-ℤ◌, ◌*ℤ◌}
use Rattle.std.specs.Option.{option_or}
use Rattle.std.specs.Int.{int_div_euclid}
use Rattle.std.specs.Int.RustNames.{unsigned_abs}
use Rattle.std.specs.Ordering.{int_eq}
use Rattle.mh_base.specs.declared.area.Area.{Area}
use Rattle.mh_model.specs.declared.picture.drawing.Drawing.{Drawing}
use Rattle.mh_model.specs.declared.picture.drawing.Figure.{Figure}
use Rattle.mh_model.specs.declared.picture.drawing.Figure.TheVariants as figure
use Rattle.mh_model.specs.declared.picture.drawing.Point.{Point}
use Rattle.mh_model.specs.declared.picture.drawing.Spot.{Spot}
use Rattle.mh_model.specs.declared.picture.drawing.Stroke.{Stroke}
use Rattle.mh_model.specs.Boxes.{column_of, row_of, x_of, y_of, box_back}

-- how far the last cell is from the first one, to the right and downwards
abbrev pub across : Stroke → ℤ
across s = s.last.column -ℤ s.first.column

abbrev pub down : Stroke → ℤ
down s = s.last.row -ℤ s.first.row

abbrev pub larger : ℕ → ℕ → ℕ
larger m n = if nat_le m n then n else m

-- a step for each cell of the longer direction
abbrev pub steps : Stroke → ℕ
steps s = larger (unsigned_abs (across s)) (unsigned_abs (down s))

-- how far k of n equal steps over a distance go: the nearest number, and from a half the next one
unfoldable pub gone : ℕ → ℤ → ℕ → ℤ
gone n distance k =
    if n == 0 then pos 0
    else int_div_euclid ((pos (2 * k) *ℤ distance) +ℤ pos n) (pos (2 * n))

-- k steps come to this column, to this row, and to the cell in them
abbrev pub comes_to_column : Stroke → ℤ → ℕ → Bool
comes_to_column s column k = int_eq (s.first.column +ℤ gone (steps s) (across s) k) column

abbrev pub comes_to_row : Stroke → ℤ → ℕ → Bool
comes_to_row s row k = int_eq (s.first.row +ℤ gone (steps s) (down s) k) row

abbrev pub comes_to : Stroke → ℤ → ℤ → ℕ → Bool
comes_to s column row k = comes_to_column s column k && comes_to_row s row k

-- it holds of some number from 0 to n
abbrev pub some_to : ℕ → (ℕ → Bool) → Bool
some_to zero p = p 0
some_to (suc n) p = p (suc n) || some_to n p

-- the line goes through the cell in this column and row
abbrev pub goes_through : Stroke → ℤ → ℤ → Bool
goes_through s column row = some_to (steps s) (comes_to s column row)

-- Drawings in a box: their points are told from its upper left corner.

-- the cell in which a point lies
abbrev pub spot_of : Area → Point → Spot
spot_of a p = record {
  column = int_div_euclid (a.x +ℤ p.x) (pos 12);
  row = int_div_euclid (a.y +ℤ p.y) (pos 16);
}

abbrev pub stroke_of : Area → Drawing → Stroke
stroke_of a d = record { first = spot_of a d.from; last = spot_of a d.to }

-- the box of a drawn rectangle
abbrev pub box_of : Area → Drawing → Area
box_of a d = record {
  x = a.x +ℤ d.from.x;
  y = a.y +ℤ d.from.y;
  width = d.to.x -ℤ d.from.x;
  height = d.to.y -ℤ d.from.y;
}

-- the colour that a drawing gives to a cell, if it gives one
abbrev pub figure_back : Figure → Area → Drawing → ℕ → Option ℕ
figure_back figure.Line a d c =
    if goes_through (stroke_of a d) (column_of c) (row_of c) then d.line else None
figure_back figure.Rectangle a d c = box_back (box_of a d) d.has_line d.line d.fill (x_of c) (y_of c)

abbrev pub drawing_back : Area → Drawing → ℕ → Option ℕ
drawing_back a d c = figure_back d.figure a d c

-- the colour that these drawings give to a cell, over what lies below: that of the last one that gives one
abbrev pub drawn_over : Area → List Drawing → ℕ → Option ℕ → Option ℕ
drawn_over a [] c below = below
drawn_over a (d ∷ ds) c below = drawn_over a ds c (option_or (drawing_back a d c) below)
