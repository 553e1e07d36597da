-- The characters of a text, row by row.
use Rattle.std.specs.Prelude.{◌≡◌, ℕ, ◌+◌, ◌*◌, ◌/◌, ◌%◌, ◌<◌, ◌≤◌, List, Option, Some, slice_index, ℤ, pos, ◌-ℤ◌}
use Rattle.std.proofs.Common.{ap, ◌∙◌, sym, subst, arith}
use Rattle.mh_base.specs.declared.area.Area.{Area}
use Rattle.mh_model.specs.declared.picture.line.Line.{Line}
use Rattle.mh_model.specs.Boxes.{column_of, first_column, first_row}
use Rattle.mh_model.specs.Layout.{character_in, member_at, unless_space}
use Rattle.mh_model.specs.Looks.{Paint, marked}
use Rattle.mh_display.specs.declared.marked.Marked.{Marked}
use Rattle.mh_display.specs.declared.texts.Ink.{Ink}
use Rattle.mh_display.specs.Painting.{IsBetween, IsSet, put}
use Rattle.mh_display.specs.Texts.{letter_paint, line_paint, shown_paint}
use Rattle.mh_display.proofs.CellLemmas.{column_of_cell}

-- the same is painted between two cells
pub between_alike : (g h : ℕ → Paint) (old new : ℕ → Marked) (first last : ℕ) → ((c : ℕ) → first ≤ c → c < last → g c ≡ h c) → IsBetween (λ c. put (g c)) old new first last → IsBetween (λ c. put (h c)) old new first last
between_alike g h old new first last same done = record {
  inside = λ c low high. done.inside c low high ∙ ap (λ (p : Paint). put p (old c)) (same c low high);
  before = done.before;
  behind = done.behind;
}

-- the line of a row, and the text
pub row_of_text : (ink : Ink) (a : Area) (lines : List Line) (line : Option Line) (row left right : ℕ) (first : ℤ) (old new : ℕ → Marked) → right ≤ 60 → first ≡ first_column a → line ≡ member_at lines (pos row -ℤ first_row a)
    → IsBetween (λ c. put (line_paint ink first line c)) old new (60 * row + left) (60 * row + right) → IsBetween (λ c. put (letter_paint ink a lines c)) old new (60 * row + left) (60 * row + right)
row_of_text ink a lines line row left right first old new wide starts own done = between_alike (line_paint ink first line) (letter_paint ink a lines) old new (60 * row + left) (60 * row + right) alike done
  where
    in_row : (c : ℕ) → 60 * row + left ≤ c → c < 60 * row + right → c / 60 ≡ row
    in_row c low high = grind (arith, low, high, wide)

    alike : (c : ℕ) → 60 * row + left ≤ c → c < 60 * row + right → line_paint ink first line c ≡ letter_paint ink a lines c
    alike c low high =
        let there : line ≡ member_at lines (pos (c / 60) -ℤ first_row a) = own ∙ ap (λ (r : ℕ). member_at lines (pos r -ℤ first_row a)) (sym (in_row c low high)) in
        λ i. record { back = ink.background; mark = marked ink.colour (character_in (there i) (column_of c -ℤ starts i)) }

-- the characters of a row, and its line
pub row_of_line : (ink : Ink) (line : Option Line) (shown : List ℕ) (first : ℤ) (old new : ℕ → Marked) (from to : ℕ) → ((column : ℕ) → column < 60 → unless_space (Some (slice_index shown column)) ≡ character_in line (pos column -ℤ first))
    → IsBetween (λ c. put (shown_paint ink shown c)) old new from to → IsBetween (λ c. put (line_paint ink first line c)) old new from to
row_of_line ink line shown first old new from to each done =
    between_alike (shown_paint ink shown) (line_paint ink first line) old new from to
    (λ c low high. let inside : c % 60 < 60 = grind arith in ap (λ (m : Option ℕ). record { back = ink.background; mark = marked ink.colour m }) (each (c % 60) inside)) done

-- the character of the cell in this row and column
pub shown_set : (ink : Ink) (shown : List ℕ) (row column : ℕ) (old new : ℕ → Marked) → column < 60
    → IsSet old new (60 * row + column) (put (record { back = ink.background; mark = marked ink.colour (unless_space (Some (slice_index shown column))) }) (old (60 * row + column)))
    → IsSet old new (60 * row + column) (put (shown_paint ink shown (60 * row + column)) (old (60 * row + column)))
shown_set ink shown row column old new inside set =
    subst (λ (k : ℕ). IsSet old new (60 * row + column) (put (record { back = ink.background; mark = marked ink.colour (unless_space (Some (slice_index shown k))) }) (old (60 * row + column)))) (sym (column_of_cell row column inside)) set
