-- What a terminal is given to show a report.
use Rattle.std.specs.Prelude.{ℕ, ◌+◌, Bool, List, [], ◌∷◌, ◌++◌}
use Rattle.mh_told.specs.Told.{fault_line, refused_line, did_line, total_line}
use Rattle.mh_terminal.specs.Frames.{shown_frame}
use Rattle.mh_look.specs.declared.report.Part.{Part}
use Rattle.mh_look.specs.declared.report.Part.TheVariants as part

-- how many frames there are up to this part
abbrev pub passed : ℕ → Part → ℕ
passed k (part.Fault f) = k
passed k (part.Refused n) = k
passed k (part.Did n left) = k
passed k (part.Frame p) = k + 1

-- a part that is no frame is the line that it is in the report
unfoldable pub line_of : Part → List ℕ
line_of (part.Fault f) = fault_line f
line_of (part.Refused n) = refused_line n
line_of (part.Did n left) = did_line n left
line_of (part.Frame p) = []

unfoldable pub shown_part : Bool → ℕ → Part → List ℕ
shown_part plain k (part.Frame p) = shown_frame plain (k + 1) p
shown_part plain k (part.Fault f) = line_of (part.Fault f)
shown_part plain k (part.Refused n) = line_of (part.Refused n)
shown_part plain k (part.Did n left) = line_of (part.Did n left)

-- these parts, behind so many frames, and the line that ends the report
abbrev pub shown_from : Bool → ℕ → List Part → ℕ → List ℕ
shown_from plain k [] total = total_line total
shown_from plain k (p ∷ ps) total = shown_part plain k p ++ shown_from plain (passed k p) ps total
