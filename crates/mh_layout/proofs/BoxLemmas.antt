-- Which columns and rows a box covers.
use Rattle.std.specs.Prelude.{◌≡◌, ◌↔◌, ◌&&◌, IsTrue, ℤ, pos, negsuc, ◌+ℤ◌, ◌-ℤ◌, ◌*ℤ◌, ◌≤ℤ◌, ◌<ℤ◌, int_le, int_lt, refl}
use Rattle.std.specs.Int.{int_div_euclid}
use Rattle.std.proofs.Common.{arith}
use Rattle.std.proofs.lemmas.Int.{ints, by_lt_z}
use Rattle.mh_model.specs.Boxes.{within}
use Rattle.mh_model.specs.Boxes.{column_from, row_from, or_zero}
use Rattle.mh_layout.specs.Laws.{ColumnsAreCovered, RowsAreCovered}

-- two tests, and what they say
tests_say : (a b c d : ℤ) → IsTrue (int_le a b && int_lt c d) → (a ≤ℤ b) × (c <ℤ d)
tests_say a b c d h = (grind (arith, ints), grind (arith, ints))

said_by_tests : (a b c d : ℤ) → a ≤ℤ b → c <ℤ d → IsTrue (int_le a b && int_lt c d)
said_by_tests a b c d h g = grind (arith, ints)

-- the quotient, rounded down
parts_of_12 : (z : ℤ) → ((pos 12 *ℤ int_div_euclid z (pos 12)) ≤ℤ z) × (z ≤ℤ ((pos 12 *ℤ int_div_euclid z (pos 12)) +ℤ pos 11))
parts_of_12 (pos n) = (omega (arith, ints), omega (arith, ints))
parts_of_12 (negsuc n) = (omega (arith, ints), omega (arith, ints))

parts_of_16 : (z : ℤ) → ((pos 16 *ℤ int_div_euclid z (pos 16)) ≤ℤ z) × (z ≤ℤ ((pos 16 *ℤ int_div_euclid z (pos 16)) +ℤ pos 15))
parts_of_16 (pos n) = (omega (arith, ints), omega (arith, ints))
parts_of_16 (negsuc n) = (omega (arith, ints), omega (arith, ints))

-- the numbers from the first one on are those of the columns, and of the rows, that begin at the unit or behind it
column_begins : (unit i : ℤ) → (column_from unit ≤ℤ i) ↔ (unit ≤ℤ (pos 12 *ℤ i))
column_begins unit i = from_parts (column_from unit) (parts_of_12 (unit +ℤ pos 11)).0 (parts_of_12 (unit +ℤ pos 11)).1
  where
    from_parts : (q : ℤ) → (pos 12 *ℤ q) ≤ℤ (unit +ℤ pos 11) → (unit +ℤ pos 11) ≤ℤ ((pos 12 *ℤ q) +ℤ pos 11) → (q ≤ℤ i) ↔ (unit ≤ℤ (pos 12 *ℤ i))
    from_parts q low high = (λ h. omega (arith, ints, low, high, h), λ h. omega (arith, ints, low, high, h))

row_begins : (unit j : ℤ) → (row_from unit ≤ℤ j) ↔ (unit ≤ℤ (pos 16 *ℤ j))
row_begins unit j = from_parts (row_from unit) (parts_of_16 (unit +ℤ pos 15)).0 (parts_of_16 (unit +ℤ pos 15)).1
  where
    from_parts : (q : ℤ) → (pos 16 *ℤ q) ≤ℤ (unit +ℤ pos 15) → (unit +ℤ pos 15) ≤ℤ ((pos 16 *ℤ q) +ℤ pos 15) → (q ≤ℤ j) ↔ (unit ≤ℤ (pos 16 *ℤ j))
    from_parts q low high = (λ h. omega (arith, ints, low, high, h), λ h. omega (arith, ints, low, high, h))

-- as many numbers as from the first to the end
counted : (first end i difference : ℤ) → difference ≡ end -ℤ first → first ≤ℤ i → (i <ℤ end) ↔ (i <ℤ (first +ℤ pos (or_zero difference)))
counted first end i (pos n) is low = (λ h. omega (arith, ints, is, h), λ h. omega (arith, ints, is, h))
counted first end i (negsuc n) is low = (λ h. omega (arith, ints, is, low, h), λ h. omega (arith, ints, is, low, h))

-- a stretch from the start on, and the numbers of what begins in it
covered : (first end start size i at : ℤ) → (first ≤ℤ i) ↔ (start ≤ℤ at) → (end ≤ℤ i) ↔ ((start +ℤ size) ≤ℤ at) → IsTrue (within start size at) ↔ ((first ≤ℤ i) × (i <ℤ (first +ℤ pos (or_zero (end -ℤ first)))))
covered first end start size i at from to = (there, back)
  where
    there : IsTrue (within start size at) → (first ≤ℤ i) × (i <ℤ (first +ℤ pos (or_zero (end -ℤ first))))
    there h =
        let said : (start ≤ℤ at) × (at <ℤ (start +ℤ size)) = tests_say start at at (start +ℤ size) h in
        let low : first ≤ℤ i = from.1 said.0 in
        let high : i <ℤ end = by_lt_z i end (λ below. below) (λ above. let past : (start +ℤ size) ≤ℤ at = to.0 above in absurd (omega (arith, ints, past, said.1))) in
        (low, (counted first end i (end -ℤ first) refl low).0 high)

    back : (first ≤ℤ i) × (i <ℤ (first +ℤ pos (or_zero (end -ℤ first)))) → IsTrue (within start size at)
    back h =
        let high : i <ℤ end = (counted first end i (end -ℤ first) refl h.0).1 h.1 in
        let inside : at <ℤ (start +ℤ size) = by_lt_z at (start +ℤ size) (λ below. below) (λ above. let past : end ≤ℤ i = to.1 above in absurd (omega (arith, ints, past, high))) in
        said_by_tests start at at (start +ℤ size) (from.0 h.0) inside

pub columns_are_covered : ColumnsAreCovered
columns_are_covered a i =
    covered (column_from a.x) (column_from (a.x +ℤ a.width)) a.x a.width i (pos 12 *ℤ i) (column_begins a.x i) (column_begins (a.x +ℤ a.width) i)

pub rows_are_covered : RowsAreCovered
rows_are_covered a j =
    covered (row_from a.y) (row_from (a.y +ℤ a.height)) a.y a.height j (pos 16 *ℤ j) (row_begins a.y j) (row_begins (a.y +ℤ a.height) j)
