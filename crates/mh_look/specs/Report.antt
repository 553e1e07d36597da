-- A report: what happened, part by part, and how it is printed.
use Rattle.std.specs.Prelude.{ℕ, ◌+◌, ◌<◌, ◌^◌, ◌≡◌, ◌&&◌, nat_lt, Bool, true, List, [], ◌∷◌, ◌++◌}
use Rattle.mh_base.specs.Path.{is_path}
use Rattle.mh_model.specs.declared.picture.cell.Cell.{Cell}
use Rattle.mh_model.specs.declared.fault.Fault.{Fault}
use Rattle.mh_model.specs.Planes.{Planes, IsWhole, blank}
use Rattle.mh_model.specs.Picture.{cell_of}
use Rattle.mh_told.specs.Frame.{frame_text}
use Rattle.mh_told.specs.Told.{fault_line, refused_line, did_line, total_line}
use Rattle.mh_look.specs.declared.report.Part.{Part}
use Rattle.mh_look.specs.declared.report.Part.TheVariants as part
use lib.Utf8.{scalar}

-- the parts in their order, and how many steps were done in all
pub record Report : Type 0 where
  pub parts : List Part
  pub total : ℕ

-- How it is printed.

-- these parts, behind so many frames of which this was the last, and the line that ends the report
abbrev pub lines_from : ℕ → Planes → List Part → ℕ → List ℕ
lines_from k before [] total = total_line total
lines_from k before (part.Fault f ∷ ps) total = fault_line f ++ lines_from k before ps total
lines_from k before (part.Refused n ∷ ps) total = refused_line n ++ lines_from k before ps total
lines_from k before (part.Did n left ∷ ps) total = did_line n left ++ lines_from k before ps total
lines_from k before (part.Frame p ∷ ps) total = frame_text (k + 1) before p ++ lines_from (k + 1) p ps total

-- before the first frame the screen is black
abbrev pub report_text : Report → List ℕ
report_text r = lines_from 0 blank r.parts r.total

-- What a report can hold.

-- a character of Unicode, in colours of 24 bits
abbrev pub is_shown : Cell → Bool
is_shown c = scalar c.scalar && nat_lt c.fore 16777216 && nat_lt c.back 16777216

-- a picture whose cells can be printed
pub record IsShown (p : Planes) : Type 0 where
  pub whole : IsWhole p
  pub cells : (c : ℕ) → c < 2160 → is_shown (cell_of p c) ≡ true

pub record IsGoodFault (f : Fault) : Type 0 where
  pub group : is_path f.at.group ≡ true
  pub number : f.at.number < 2 ^ 32

abbrev pub IsGoodPart : Part → Type 0
IsGoodPart (part.Fault f) = IsGoodFault f
IsGoodPart (part.Refused n) = n < 2 ^ 32
IsGoodPart (part.Did n left) = n < 2 ^ 64
IsGoodPart (part.Frame p) = IsShown p

-- each part is a good one
abbrev pub AreGood : List Part → Type 0
AreGood [] = Unit {0}
AreGood (p ∷ ps) = IsGoodPart p × AreGood ps

pub record IsGood (r : Report) : Type 0 where
  pub parts : AreGood r.parts
  pub total : r.total < 2 ^ 64
