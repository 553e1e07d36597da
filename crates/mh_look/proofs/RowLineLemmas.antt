-- The line of a row, read and printed again.
use Rattle.std.specs.Prelude.{◌≡◌, ℕ, ◌+◌, ◌<◌, List, [], ◌∷◌, ◌++◌, length, codes, Option, Some, None, refl}
use Rattle.std.proofs.Common.{ap, ◌∙◌, sym, subst, arith, append_assoc}
use Rattle.std.proofs.lemmas.List.{length-append}
use Rattle.mh_model.specs.declared.picture.cell.Cell.{Cell}
use Rattle.mh_told.specs.Frame.{row_line, runs}
use Rattle.mh_told.specs.Printing.{two_digits}
use Rattle.mh_look.specs.Reading.{Begins, IsRow, IsRowFound}
use Rattle.mh_look.specs.Front.{IsInFront}
use Rattle.mh_look.specs.Cells.{AreCellsFound}
use Rattle.mh_look.proofs.OptionLemmas.{some_is, nothing_is}
use Rattle.mh_look.proofs.TailLemmas.{tail, tail_at}

-- The line of a row.

-- in front of the runs
abbrev front : ℕ → List ℕ
front row = codes "row " ++ two_digits row ++ codes ":"

line_parts : (row : ℕ) (cs : List Cell) (rest : List ℕ) → row_line row cs ++ rest ≡ front row ++ (runs cs ++ 10 ∷ rest)
line_parts row cs rest = append_assoc (front row ++ runs cs) (10 ∷ []) rest ∙ append_assoc (front row) (runs cs) (10 ∷ rest)

runs_left : (row : ℕ) (cs : List Cell) (rest bytes : List ℕ) → bytes ≡ row_line row cs ++ rest → tail 7 bytes ≡ runs cs ++ 10 ∷ rest
runs_left row cs rest bytes e = tail_at 7 (front row) (runs cs ++ 10 ∷ rest) bytes refl (e ∙ line_parts row cs rest)

no_row : (row : ℕ) (bytes : List ℕ) (cells : List Cell) → ((cs : List Cell) → IsRow cs → (rest : List ℕ) → bytes ≡ row_line row cs ++ rest → ⊥) → IsRowFound row bytes cells None
no_row row bytes cells wrong = record {
  read = λ n some. nothing_is n _ some;
  shown = λ n some. nothing_is n _ some;
  taken = λ cs good rest e. absurd (wrong cs good rest e);
  same = λ cs good rest e. absurd (wrong cs good rest e);
}

pub too_short : (row : ℕ) (bytes : List ℕ) (cells : List Cell) → length bytes < 7 → IsRowFound row bytes cells None
too_short row bytes cells short = no_row row bytes cells (λ cs good rest e.
    let long : length bytes ≡ length (front row) + length (runs cs ++ 10 ∷ rest) = ap (λ (xs : List ℕ). length xs) (e ∙ line_parts row cs rest) ∙ length-append (front row) (runs cs ++ 10 ∷ rest) in
    let seven : length (front row) ≡ 7 = refl in
    omega (arith, long, seven, short))

pub no_cells : (row : ℕ) (bytes : List ℕ) (cells : List Cell) → AreCellsFound (tail 7 bytes) None → IsRowFound row bytes cells None
no_cells row bytes cells none = no_row row bytes cells (λ cs good rest e. nothing_is cs ⊥ (none cs good rest (runs_left row cs rest bytes e)))

-- the cells that were read are those of the row, which was printed again
pub row_found : (row : ℕ) (bytes text : List ℕ) (read cells : List Cell) (found : Option ℕ) → AreCellsFound (tail 7 bytes) (Some read) → IsRow read → cells ≡ read → text ≡ row_line row cells → IsInFront bytes text found → IsRowFound row bytes cells found
row_found row bytes text read cells found there good put printed at =
    let same : (cs : List Cell) → IsRow cs → (rest : List ℕ) → bytes ≡ row_line row cs ++ rest → cells ≡ cs =
    λ cs is rest e. put ∙ some_is read cs (there cs is rest (runs_left row cs rest bytes e)) in
    let taken : (cs : List Cell) → IsRow cs → (rest : List ℕ) → bytes ≡ row_line row cs ++ rest → found ≡ Some (length (row_line row cs)) =
    λ cs is rest e.
    let line : text ≡ row_line row cs = printed ∙ ap (λ (xs : List Cell). row_line row xs) (same cs is rest e) in
    at.taken rest (e ∙ ap (λ (xs : List ℕ). xs ++ rest) (sym line)) ∙ ap (λ (xs : List ℕ). Some (length xs)) line in
    record {
      read = λ n some. subst (λ (xs : List ℕ). Begins bytes xs n) printed (at.read n some);
      shown = λ n some. subst (λ (xs : List Cell). IsRow xs) (sym put) good;
      taken = taken;
      same = same;
    }
