-- What the readers of a report promise: what was read is what stood there, and what can be read is read.
use Rattle.std.specs.Prelude.{ℕ, ◌+◌, ◌^◌, ◌≡◌, ◌<◌, ◌≢◌, true, List, ◌∷◌, ◌++◌, length, drop, codes, Option, Some}
use Rattle.std.specs.List.{list_all, flat_map}
use Rattle.std.specs.Fmt.{decimal}
use lib.Utf8.{scalar}
use Rattle.mh_model.specs.declared.picture.cell.Cell.{Cell}
use Rattle.mh_model.specs.Planes.{Planes}
use Rattle.mh_told.specs.Frame.{row_cells, row_line, frame_text}
use Rattle.mh_told.specs.Printing.{hex_colour, quoted}
use Rattle.mh_look.specs.declared.report.ReadError.{ReadError}
use Rattle.mh_look.specs.declared.report.ReadError.TheVariants as error
use Rattle.mh_look.specs.Report.{is_shown, IsShown, Report, IsGood, report_text}

-- the bytes begin with this text, which is so long
pub record Begins (bytes text : List ℕ) (n : ℕ) : Type 0 where
  pub whole : bytes ≡ text ++ drop n bytes
  pub long : length text ≡ n

-- sixty cells that can be printed
pub record IsRow (cells : List Cell) : Type 0 where
  pub whole : length cells ≡ 60
  pub shown : list_all is_shown cells ≡ true

-- so many bytes were found to be the line of a row with these cells: what was found stands there, and whenever
-- such a line stands there, it is found
pub record IsRowFound (row : ℕ) (bytes : List ℕ) (cells : List Cell) (found : Option ℕ) : Type 0 where
  pub read : (n : ℕ) → found ≡ Some n → Begins bytes (row_line row cells) n
  pub shown : (n : ℕ) → found ≡ Some n → IsRow cells
  pub taken : (cs : List Cell) → IsRow cs → (rest : List ℕ) → bytes ≡ row_line row cs ++ rest → found ≡ Some (length (row_line row cs))
  pub same : (cs : List Cell) → IsRow cs → (rest : List ℕ) → bytes ≡ row_line row cs ++ rest → cells ≡ cs

-- all rows but this one are the same in both
abbrev pub SameBut : ℕ → Planes → Planes → Type 0
SameBut row p q = (j : ℕ) → j < 36 → j ≢ row → row_cells p j ≡ row_cells q j

-- behind a frame stands no line of a row
abbrev pub EndsFrame : List ℕ → Type 0
EndsFrame rest = (back : List ℕ) → rest ≢ codes "row " ++ back

-- the same of a frame with this number and this picture, behind another picture
pub record IsFrameFound (k : ℕ) (before : Planes) (bytes : List ℕ) (after : Planes) (found : Option ℕ) : Type 0 where
  pub read : (n : ℕ) → found ≡ Some n → Begins bytes (frame_text k before after) n
  pub shown : (n : ℕ) → found ≡ Some n → IsShown after
  pub taken : (p : Planes) → IsShown p → (rest : List ℕ) → EndsFrame rest → bytes ≡ frame_text k before p ++ rest → found ≡ Some (length (frame_text k before p))
  pub same : (p : Planes) → IsShown p → (rest : List ℕ) → EndsFrame rest → bytes ≡ frame_text k before p ++ rest → after ≡ p

-- a report that these bytes are
pub record IsReportOf (bytes : List ℕ) (r : Report) : Type 0 where
  pub good : IsGood r
  pub printed : report_text r ≡ bytes

-- what is wrong with bytes that are no report
abbrev pub IsRight : List ℕ → ReadError → Type 0
IsRight bytes (error.Line n) = (r : Report) → IsReportOf bytes r → ⊥
IsRight bytes error.NoMemory = Unit {0}

-- behind a number stands no digit
abbrev pub EndsNumber : List ℕ → Type 0
EndsNumber rest = (d : ℕ) (back : List ℕ) → d < 10 → rest ≢ (48 + d) ∷ back

-- a number that stands at the front of the bytes is found, with its length
abbrev pub IsNumberFound : List ℕ → Option (ℕ × ℕ) → Type 0
IsNumberFound bytes found = (n : ℕ) → n < 2 ^ 64 → (rest : List ℕ) → EndsNumber rest → bytes ≡ decimal n ++ rest → found ≡ Some (n, length (decimal n))

-- a colour that stands there is found
abbrev pub IsColourFound : List ℕ → Option ℕ → Type 0
IsColourFound bytes found = (c : ℕ) → c < 16777216 → (rest : List ℕ) → bytes ≡ hex_colour c ++ rest → found ≡ Some c

-- characters that stand there, behind a space and between quotation marks, are found, and put behind others
abbrev pub quoted_text : List ℕ → List ℕ
quoted_text cs = codes " \"" ++ flat_map quoted cs ++ codes "\""

pub record AreCharactersFound (bytes before after : List ℕ) (found : Option ℕ) : Type 0 where
  pub count : (cs rest : List ℕ) → list_all scalar cs ≡ true → bytes ≡ quoted_text cs ++ rest → found ≡ Some (length (quoted_text cs))
  pub put : (cs rest : List ℕ) → list_all scalar cs ≡ true → bytes ≡ quoted_text cs ++ rest → after ≡ before ++ cs
