-- Which rows changed, as a number.
use Rattle.std.specs.Prelude.{◌≡◌, ℕ, ◌+◌, ◌*◌, ◌<◌, Bool, false, not, List, [], ◌∷◌, length, slice_index_or, if◌then◌else◌}
use Rattle.mh_display.specs.Rows.{same_row}
use Rattle.mh_model.specs.Planes.{Planes}

-- the number of which the first is the lowest bit
abbrev pub bits_of : List Bool → ℕ
bits_of [] = 0
bits_of (b ∷ bs) = (if b then 1 else 0) + 2 * bits_of bs

-- a bit a row, of 36, the first row the lowest: those that differ in two pictures
pub record AreRows (before after : Planes) (n : ℕ) : Type 0 where
  pub rows : List Bool
  pub all : length rows ≡ 36
  pub each : (j : ℕ) → j < 36 → slice_index_or rows j false ≡ not (same_row before after j)
  pub told : n ≡ bits_of rows
