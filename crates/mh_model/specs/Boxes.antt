-- Boxes and the cells that they cover. A cell is 12 units wide and 16 high; its place is the unit in its upper
-- left corner.
use Rattle.std.specs.Prelude.{ℕ, ◌*◌, ◌/◌, ◌%◌, Bool, ◌&&◌, not, if◌then◌else◌, Option, None, ℤ, pos, negsuc, ◌+ℤ◌, ◌-ℤ◌, ◌≤ℤ◌, int_le, int_lt}
use Rattle.std.specs.Int.{int_div_euclid}
use Rattle.mh_base.specs.declared.area.Area.{Area}

-- Cells of the screen, which are counted row by row.

-- the column and the row of a cell
abbrev pub column_of : ℕ → ℤ
column_of c = pos (c % 60)

abbrev pub row_of : ℕ → ℤ
row_of c = pos (c / 60)

-- the unit in its upper left corner
abbrev pub x_of : ℕ → ℤ
x_of c = pos (12 * (c % 60))

abbrev pub y_of : ℕ → ℤ
y_of c = pos (16 * (c / 60))

-- What a box covers.

-- a stretch of the size from the start on has this unit
abbrev pub within : ℤ → ℤ → ℤ → Bool
within start size at = int_le start at && int_lt at (start +ℤ size)

-- the box covers the cell at this place, on the screen or off it
abbrev pub covers : Area → ℤ → ℤ → Bool
covers a x y = within a.x a.width x && within a.y a.height y

-- the neighbours to the left and to the right are covered
abbrev pub covers_beside : Area → ℤ → Bool
covers_beside a x = within a.x a.width (x -ℤ pos 12) && within a.x a.width (x +ℤ pos 12)

-- the neighbours above and below are covered
abbrev pub covers_above_and_below : Area → ℤ → Bool
covers_above_and_below a y = within a.y a.height (y -ℤ pos 16) && within a.y a.height (y +ℤ pos 16)

-- a neighbour on one of the four sides is not covered
abbrev pub is_edge : Area → ℤ → ℤ → Bool
is_edge a x y = not (covers_beside a x && covers_above_and_below a y)

-- the colour that a box gives to the cell at this place: one colour for its edge, if it has a line, and one
-- for its inside
abbrev pub box_back : Area → Bool → Option ℕ → Option ℕ → ℤ → ℤ → Option ℕ
box_back a has_line line fill x y =
    if covers a x y then (if has_line && is_edge a x y then line else fill) else None

-- How many columns and rows a box covers.

-- the number of the first column, and of the first row, that begins at the unit or behind it
abbrev pub column_from : ℤ → ℤ
column_from unit = int_div_euclid (unit +ℤ pos 11) (pos 12)

abbrev pub row_from : ℤ → ℤ
row_from unit = int_div_euclid (unit +ℤ pos 15) (pos 16)

-- a number, or 0 in place of a negative one
abbrev pub or_zero : ℤ → ℕ
or_zero (pos n) = n
or_zero (negsuc n) = 0

-- the first column and the first row that a box covers, if it covers any
abbrev pub first_column : Area → ℤ
first_column a = column_from a.x

abbrev pub first_row : Area → ℤ
first_row a = row_from a.y

-- how many columns and how many rows a box covers
abbrev pub columns_of : Area → ℕ
columns_of a = or_zero (column_from (a.x +ℤ a.width) -ℤ column_from a.x)

abbrev pub rows_of : Area → ℕ
rows_of a = or_zero (row_from (a.y +ℤ a.height) -ℤ row_from a.y)

-- a number that is not far from 0
abbrev pub IsNear : ℕ → ℤ → Type 0
IsNear n z = (negsuc n ≤ℤ z) × (z ≤ℤ pos n)
