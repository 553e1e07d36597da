-- The laws of the lay-out.
use Rattle.std.specs.Prelude.{◌≡◌, ◌↔◌, ℕ, ◌<◌, List, IsTrue, ℤ, pos, ◌+ℤ◌, ◌*ℤ◌, ◌≤ℤ◌, ◌<ℤ◌}
use Rattle.mh_base.specs.declared.area.Area.{Area}
use Rattle.mh_model.specs.Boxes.{within}
use Rattle.mh_model.specs.Boxes.{first_column, first_row, columns_of, rows_of}
use Rattle.mh_model.specs.Lines.{AreLines, lines_of}

-- for w above 0 a paragraph has one division into lines
abbrev pub OneDivision : Type 0
OneDivision = (w : ℕ) (xs : List ℕ) → 0 < w → AreLines w xs (lines_of w xs) × ((lines : List (List ℕ)) → AreLines w xs lines → lines ≡ lines_of w xs)

-- a box covers as many columns, from the first on, and no other one
abbrev pub ColumnsAreCovered : Type 0
ColumnsAreCovered = (a : Area) (i : ℤ) → IsTrue (within a.x a.width (pos 12 *ℤ i)) ↔ ((first_column a ≤ℤ i) × (i <ℤ (first_column a +ℤ pos (columns_of a))))

abbrev pub RowsAreCovered : Type 0
RowsAreCovered = (a : Area) (j : ℤ) → IsTrue (within a.y a.height (pos 16 *ℤ j)) ↔ ((first_row a ≤ℤ j) × (j <ℤ (first_row a +ℤ pos (rows_of a))))
