-- The frames of a report, one after the other, and where two reports differ.
use Rattle.std.specs.Prelude.{ℕ, ◌+◌, ◌-◌, ◌<◌, ◌==◌, ◌≡◌, ◌≢◌, Bool, true, false, not, if◌then◌else◌, List, [], ◌∷◌, Option, Some, None, slice_get}
use Rattle.std.specs.List.{count_by, find, range_with_len}
use Rattle.mh_model.specs.Planes.{Planes}
use Rattle.mh_model.specs.Picture.{cell_of}
use Rattle.mh_told.specs.Frame.{same_cell}
use Rattle.mh_look.specs.declared.report.Part.{Part}
use Rattle.mh_look.specs.declared.report.Part.TheVariants as part
use Rattle.mh_look.specs.declared.comparison.difference.Difference.{Difference}
use Rattle.mh_look.specs.declared.comparison.difference.Difference.TheVariants as difference

-- what was shown, frame by frame
abbrev pub pictures : List Part → List Planes
pictures [] = []
pictures (part.Frame p ∷ ps) = p ∷ pictures ps
pictures (part.Fault f ∷ ps) = pictures ps
pictures (part.Refused n ∷ ps) = pictures ps
pictures (part.Did n left ∷ ps) = pictures ps

-- the picture of the frame with this number, counted from 1
abbrev pub frame_at : ℕ → List Part → Option Planes
frame_at number ps = if number == 0 then None else slice_get (pictures ps) (number - 1)

-- two pictures differ in a cell
abbrev pub differs_at : Planes → Planes → ℕ → Bool
differs_at p q c = not (same_cell (cell_of p c) (cell_of q c))

-- the first cell, row by row from the top, that differs
unfoldable pub first_difference : Planes → Planes → Option ℕ
first_difference p q = find (differs_at p q) (range_with_len 0 2160)

-- what was found is the first cell that differs, and where nothing was found the pictures are the same
abbrev pub IsFirstDifference : Planes → Planes → Option ℕ → Type 0
IsFirstDifference p q None = p ≡ q
IsFirstDifference p q (Some at) = (at < 2160) × (cell_of p at ≢ cell_of q at) × ((c : ℕ) → c < at → cell_of p c ≡ cell_of q c)

-- how many cells of two pictures differ
unfoldable pub changed_cells : Planes → Planes → ℕ
changed_cells p q = count_by (differs_at p q) (range_with_len 0 2160)

-- the first frame that differs, behind so many that are the same
abbrev pub at_frame : ℕ → Option ℕ → Difference → Difference
at_frame passed (Some cell) behind = difference.At (passed + 1) cell
at_frame passed None behind = behind

abbrev pub difference_behind : ℕ → List Planes → List Planes → Difference
difference_behind passed [] [] = difference.Nowhere passed
difference_behind passed [] (q ∷ qs) = difference.SecondHasMore passed
difference_behind passed (p ∷ ps) [] = difference.FirstHasMore passed
difference_behind passed (p ∷ ps) (q ∷ qs) = at_frame passed (first_difference p q) (difference_behind (passed + 1) ps qs)

-- where the frames of two reports differ
abbrev pub difference_of : List Part → List Part → Difference
difference_of ps qs = difference_behind 0 (pictures ps) (pictures qs)

-- the frames of two reports differ
abbrev pub is_somewhere : Difference → Bool
is_somewhere (difference.Nowhere frames) = false
is_somewhere (difference.At number at) = true
is_somewhere (difference.FirstHasMore frames) = true
is_somewhere (difference.SecondHasMore frames) = true
