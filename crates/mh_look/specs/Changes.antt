-- The rows of a frame, one by one, and what the readers of them promise.
use Rattle.std.specs.Prelude.{ℕ, ◌≡◌, ◌≢◌, if◌then◌else◌, List, [], ◌∷◌, ◌++◌, length, codes, Option, Some}
use Rattle.std.specs.Fmt.{decimal}
use Rattle.mh_model.specs.declared.picture.cell.Cell.{Cell}
use Rattle.mh_model.specs.Planes.{Planes}
use Rattle.mh_told.specs.Frame.{differ, row_line, row_changes}
use Rattle.mh_told.specs.Printing.{two_digits}
use Rattle.mh_look.specs.Report.{IsShown}
use Rattle.mh_look.specs.Reading.{Begins, IsRow, EndsFrame}

-- the line that begins a frame
abbrev pub head : ℕ → List ℕ
head k = codes "frame " ++ decimal k ++ 10 ∷ []

-- how the line of a row begins
abbrev pub row_front : ℕ → List ℕ
row_front j = codes "row " ++ two_digits j ++ codes ":"

-- the line of a row that differs from the one before; nothing for a row that is the same
abbrev pub change : ℕ → List Cell → List Cell → List ℕ
change j old new = if differ old new then row_line j new else []

-- behind the row stands no line of the same row
abbrev pub EndsRow : ℕ → List ℕ → Type 0
EndsRow j rest = (back : List ℕ) → rest ≢ row_front j ++ back

-- a row was found, of which so many bytes tell: they stand there, and whenever they stand there, they are found
pub record IsChangeFound (j : ℕ) (old : List Cell) (bytes : List ℕ) (new : List Cell) (found : Option ℕ) : Type 0 where
  pub read : (n : ℕ) → found ≡ Some n → Begins bytes (change j old new) n
  pub shown : (n : ℕ) → found ≡ Some n → IsRow new
  pub taken : (cs : List Cell) → IsRow cs → (rest : List ℕ) → EndsRow j rest → bytes ≡ change j old cs ++ rest → found ≡ Some (length (change j old cs))
  pub same : (cs : List Cell) → IsRow cs → (rest : List ℕ) → EndsRow j rest → bytes ≡ change j old cs ++ rest → new ≡ cs

-- the same of all rows of a frame
pub record AreChangesFound (before : Planes) (bytes : List ℕ) (after : Planes) (found : Option ℕ) : Type 0 where
  pub read : (n : ℕ) → found ≡ Some n → Begins bytes (row_changes before after) n
  pub shown : (n : ℕ) → found ≡ Some n → IsShown after
  pub taken : (p : Planes) → IsShown p → (rest : List ℕ) → EndsFrame rest → bytes ≡ row_changes before p ++ rest → found ≡ Some (length (row_changes before p))
  pub same : (p : Planes) → IsShown p → (rest : List ℕ) → EndsFrame rest → bytes ≡ row_changes before p ++ rest → after ≡ p
