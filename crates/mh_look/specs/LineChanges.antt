-- The lines between the frames in which two reports differ, as far as both have frames: those before the first frame are held against
-- one another, those behind it, and so on.
use Rattle.std.specs.Prelude.{ℕ, ◌+◌, ◌==◌, Bool, true, false, ◌&&◌, ◌||◌, not, if◌then◌else◌, List, [], ◌∷◌, ◌++◌, codes, Option, Some, None}
use Rattle.std.specs.Fmt.{decimal}
use Rattle.std.specs.List.{flat_map, slice_split}
use Rattle.std.specs.Str.{bytes_eq}
use Rattle.mh_told.specs.Told.{total_line}
use Rattle.mh_look.specs.declared.comparison.line_changes.TheConstants.{FIRST, SECOND, IN_FRONT, BEHIND, SAME_LINES}
use Rattle.mh_look.specs.declared.report.Part.{Part}
use Rattle.mh_look.specs.declared.report.Part.TheVariants as part
use Rattle.mh_look.specs.Frames.{difference_of, is_somewhere}
use Rattle.mh_look.specs.Report.{Report}
use Rattle.mh_look.specs.Shown.{line_of}
use Rattle.mh_look.specs.Telling as frames

abbrev pub is_frame : Part → Bool
is_frame (part.Frame p) = true
is_frame (part.Fault f) = false
is_frame (part.Refused n) = false
is_frame (part.Did n left) = false

-- what was told before the first frame, behind it, and so on up to what was told behind the last
abbrev pub steps : List Part → List (List Part)
steps ps = slice_split is_frame ps

-- the same of what stands behind a frame, if there is one
abbrev pub steps_behind : Option (List Part) → List (List Part)
steps_behind None = []
steps_behind (Some ps) = steps ps

-- behind so many frames
unfoldable pub place : ℕ → List ℕ
place passed = if passed == 0 then IN_FRONT.now else BEHIND.now ++ decimal passed ++ codes ": "

-- a line of one of the reports, which the other does not have there
unfoldable pub told_line : List ℕ → ℕ → List ℕ → List ℕ
told_line whose passed line = whose ++ place passed ++ line

-- two lines, if they differ
unfoldable pub both_lines : ℕ → List ℕ → List ℕ → List ℕ
both_lines passed a b = if bytes_eq a b then [] else told_line FIRST.now passed a ++ told_line SECOND.now passed b

-- lines of one of the reports alone
unfoldable pub told_lines : List ℕ → ℕ → List Part → List ℕ
told_lines whose passed ps = flat_map (λ p. told_line whose passed (line_of p)) ps

abbrev pub changed_step : ℕ → List Part → List Part → List ℕ
changed_step passed [] qs = told_lines SECOND.now passed qs
changed_step passed (p ∷ ps) [] = told_lines FIRST.now passed (p ∷ ps)
changed_step passed (p ∷ ps) (q ∷ qs) = both_lines passed (line_of p) (line_of q) ++ changed_step passed ps qs

abbrev pub changed_steps : ℕ → List (List Part) → List (List Part) → List ℕ
changed_steps passed [] ts = []
changed_steps passed (s ∷ ss) [] = []
changed_steps passed (s ∷ ss) (t ∷ ts) = changed_step passed s t ++ changed_steps (passed + 1) ss ts

-- the lines that end the reports

unfoldable pub own_total : List ℕ → ℕ → List ℕ
own_total whose total = whose ++ codes ": " ++ total_line total

unfoldable pub changed_totals : ℕ → ℕ → List ℕ
changed_totals a b = if a == b then [] else own_total FIRST.now a ++ own_total SECOND.now b

unfoldable pub changed_lines : Report → Report → List ℕ
changed_lines r s = changed_steps 0 (steps r.parts) (steps s.parts) ++ changed_totals r.total s.total

-- What is said of two reports, and whether they differ: in frames, and where that is asked for in lines.

abbrev pub or_same : List ℕ → List ℕ
or_same [] = SAME_LINES.now
or_same (b ∷ bs) = b ∷ bs

abbrev pub is_some_line : List ℕ → Bool
is_some_line [] = false
is_some_line (b ∷ bs) = true

abbrev pub of_lines : Bool → Report → Report → List ℕ
of_lines asked r s = if asked then or_same (changed_lines r s) else []

unfoldable pub comparison : Bool → Report → Report → List ℕ
comparison lines r s = frames.told r s (difference_of r.parts s.parts) ++ of_lines lines r s

abbrev pub differ : Bool → Report → Report → Bool
differ lines r s = is_somewhere (difference_of r.parts s.parts) || lines && is_some_line (changed_lines r s)
