-- The points of a drawing are near the corner of its box, and so are its cells.
use Rattle.std.specs.Prelude.{◌≡◌, ◌^◌, ℤ, pos, negsuc, ◌+ℤ◌, ◌-ℤ◌, ◌*ℤ◌, ◌≤ℤ◌}
use Rattle.std.specs.Int.{int_div_euclid}
use Rattle.std.proofs.Common.{arith, subst, sym}
use Rattle.std.proofs.lemmas.Int.{ints}
use Rattle.mh_base.specs.declared.area.Area.{Area}
use Rattle.mh_model.specs.declared.picture.drawing.Drawing.{Drawing}
use Rattle.mh_model.specs.declared.picture.drawing.Spot.{Spot}
use Rattle.mh_model.specs.Boxes.{IsNear}
use Rattle.mh_model.specs.Drawn.{spot_of}
use Rattle.mh_display.specs.Strokes.{IsShort, IsInReach}

low_12 : (z : ℤ) → (pos 12 *ℤ int_div_euclid z (pos 12)) ≤ℤ z
low_12 (pos a) = omega (arith, ints)
low_12 (negsuc a) = omega (arith, ints)

high_12 : (z : ℤ) → z ≤ℤ ((pos 12 *ℤ int_div_euclid z (pos 12)) +ℤ pos 11)
high_12 (pos a) = omega (arith, ints)
high_12 (negsuc a) = omega (arith, ints)

columns_near : (a p q : ℤ) → IsNear 0x8000 p → IsNear 0x8000 q → IsNear 0xFFFF (int_div_euclid (a +ℤ q) (pos 12) -ℤ int_div_euclid (a +ℤ p) (pos 12))
columns_near a p q first last = by (int_div_euclid (a +ℤ q) (pos 12)) (int_div_euclid (a +ℤ p) (pos 12)) (low_12 (a +ℤ q)) (high_12 (a +ℤ q)) (low_12 (a +ℤ p)) (high_12 (a +ℤ p))
  where
    by : (s r : ℤ) → (pos 12 *ℤ s) ≤ℤ (a +ℤ q) → (a +ℤ q) ≤ℤ ((pos 12 *ℤ s) +ℤ pos 11) → (pos 12 *ℤ r) ≤ℤ (a +ℤ p) → (a +ℤ p) ≤ℤ ((pos 12 *ℤ r) +ℤ pos 11) → IsNear 0xFFFF (s -ℤ r)
    by s r e f g h = (omega (arith, ints, e, f, g, h, first.0, first.1, last.0, last.1), omega (arith, ints, e, f, g, h, first.0, first.1, last.0, last.1))

low_16 : (z : ℤ) → (pos 16 *ℤ int_div_euclid z (pos 16)) ≤ℤ z
low_16 (pos a) = omega (arith, ints)
low_16 (negsuc a) = omega (arith, ints)

high_16 : (z : ℤ) → z ≤ℤ ((pos 16 *ℤ int_div_euclid z (pos 16)) +ℤ pos 15)
high_16 (pos a) = omega (arith, ints)
high_16 (negsuc a) = omega (arith, ints)

rows_near : (a p q : ℤ) → IsNear 0x8000 p → IsNear 0x8000 q → IsNear 0xFFFF (int_div_euclid (a +ℤ q) (pos 16) -ℤ int_div_euclid (a +ℤ p) (pos 16))
rows_near a p q first last = by (int_div_euclid (a +ℤ q) (pos 16)) (int_div_euclid (a +ℤ p) (pos 16)) (low_16 (a +ℤ q)) (high_16 (a +ℤ q)) (low_16 (a +ℤ p)) (high_16 (a +ℤ p))
  where
    by : (s r : ℤ) → (pos 16 *ℤ s) ≤ℤ (a +ℤ q) → (a +ℤ q) ≤ℤ ((pos 16 *ℤ s) +ℤ pos 15) → (pos 16 *ℤ r) ≤ℤ (a +ℤ p) → (a +ℤ p) ≤ℤ ((pos 16 *ℤ r) +ℤ pos 15) → IsNear 0xFFFF (s -ℤ r)
    by s r e f g h = (omega (arith, ints, e, f, g, h, first.0, first.1, last.0, last.1), omega (arith, ints, e, f, g, h, first.0, first.1, last.0, last.1))

pub short : (a : Area) (d : Drawing) (first last : Spot) → first ≡ spot_of a d.from → last ≡ spot_of a d.to → IsNear (2 ^ 33) first.column → IsNear (2 ^ 33) first.row
    → IsInReach d.from → IsInReach d.to → IsShort (record { first = first; last = last })
short a d first last e f column row from to = record {
  column = column;
  row = row;
  across = subst (λ (z : ℤ). IsNear 0xFFFF z) (λ i. (sym f i).column -ℤ (sym e i).column) (columns_near a.x d.from.x d.to.x from.x to.x);
  down = subst (λ (z : ℤ). IsNear 0xFFFF z) (λ i. (sym f i).row -ℤ (sym e i).row) (rows_near a.y d.from.y d.to.y from.y to.y);
}
