-- What is said of two reports that differ in frames: a line for each frame that both have.
use Rattle.std.specs.Prelude.{ℕ, ◌+◌, ◌/◌, ◌%◌, ◌==◌, if◌then◌else◌, List, [], ◌∷◌, ◌++◌, codes}
use Rattle.std.specs.Fmt.{decimal}
use Rattle.std.specs.Option.{option_map_or}
use Rattle.mh_model.specs.declared.picture.cell.Cell.{Cell}
use Rattle.mh_model.specs.Planes.{Planes}
use Rattle.mh_model.specs.Picture.{cell_of}
use Rattle.mh_told.specs.Printing.{hex_colour, quoted}
use Rattle.mh_look.specs.declared.comparison.difference.Difference.{Difference}
use Rattle.mh_look.specs.declared.comparison.difference.Difference.TheVariants as difference
use Rattle.mh_look.specs.declared.comparison.telling.TheConstants.{SAME, FIRST_HAS_MORE, SECOND_HAS_MORE, ONE_DIFFERS, MORE_DIFFER}
use Rattle.mh_look.specs.Frames.{changed_cells, first_difference, pictures}
use Rattle.mh_look.specs.Report.{Report}
use Rattle.mh_terminal.specs.Frames.{harmless}

-- a character as reports print it, and no order to a terminal
unfoldable pub mark : ℕ → List ℕ
mark c = quoted (harmless c)

-- the colours of a cell as reports print them
unfoldable pub colours_line : ℕ → ℕ → List ℕ
colours_line fore back = hex_colour fore ++ codes "/" ++ hex_colour back

unfoldable pub cell_line : Cell → List ℕ
cell_line c = colours_line c.fore c.back ++ codes " \"" ++ mark c.scalar ++ codes "\""

-- the row and the column of a cell, as reports count them
unfoldable pub place_line : ℕ → List ℕ
place_line at = decimal (at / 60) ++ codes " column " ++ decimal (at % 60)

-- a cell as both reports have it
unfoldable pub cells_line : Planes → Planes → ℕ → List ℕ
cells_line p q at = cell_line (cell_of p at) ++ codes " and " ++ cell_line (cell_of q at)

-- so many cells differ
abbrev pub differ_words : ℕ → List ℕ
differ_words cells = if cells == 1 then ONE_DIFFERS.now else MORE_DIFFER.now

-- the number of a frame, and how many cells differ there
unfoldable pub counted_line : ℕ → ℕ → List ℕ
counted_line number cells = codes "frame " ++ decimal number ++ codes ": " ++ decimal cells ++ differ_words cells

-- a frame that differs, of which this is the first cell that does
unfoldable pub frame_line : ℕ → Planes → Planes → ℕ → List ℕ
frame_line number p q at = counted_line number (changed_cells p q) ++ place_line at ++ codes ": " ++ cells_line p q at ++ 10 ∷ []

-- nothing of a frame that is the same
abbrev pub changed_frame : ℕ → Planes → Planes → List ℕ
changed_frame number p q = option_map_or (frame_line number p q) (first_difference p q) []

unfoldable pub numbered : List ℕ → ℕ → List ℕ
numbered words frames = words ++ decimal frames ++ 10 ∷ []

-- the frames, behind so many that both have
abbrev pub changed_frames : ℕ → List Planes → List Planes → List ℕ
changed_frames passed [] [] = []
changed_frames passed [] (q ∷ qs) = numbered SECOND_HAS_MORE.now passed
changed_frames passed (p ∷ ps) [] = numbered FIRST_HAS_MORE.now passed
changed_frames passed (p ∷ ps) (q ∷ qs) = changed_frame (passed + 1) p q ++ changed_frames (passed + 1) ps qs

-- what is said of all frames, by where the reports first differ
abbrev pub told : Report → Report → Difference → List ℕ
told r s (difference.Nowhere frames) = numbered SAME.now frames
told r s (difference.FirstHasMore frames) = changed_frames 0 (pictures r.parts) (pictures s.parts)
told r s (difference.SecondHasMore frames) = changed_frames 0 (pictures r.parts) (pictures s.parts)
told r s (difference.At number at) = changed_frames 0 (pictures r.parts) (pictures s.parts)
