-- A steep line has one cell at most in each row, and a flat one in each column.
use Rattle.std.specs.Prelude.{◌≡◌, ℕ, zero, suc, ◌+◌, ◌≤◌, nat_eq, nat_le, nat_lt, Bool, true, false, ◌&&◌, if◌then◌else◌, Option, Some, None, FitsSigned, ℤ, pos, negsuc, ◌+ℤ◌, ◌-ℤ◌, refl}
use Rattle.std.specs.Int.RustNames.{unsigned_abs}
use Rattle.std.specs.Ordering.{int_eq}
use Rattle.std.proofs.Common.{arith, ap, sym, ◌∙◌, subst, of_z, to_z, w64}
use Rattle.std.proofs.lemmas.Bool.Decides.{Decides-eqb, Decides-int_eq, Decides-like, nat_tests, same_from_decides}
use Rattle.std.proofs.lemmas.Int.{fits_signed_from_abs, ints}
use Rattle.std.proofs.lemmas.Bool.{eqb-true, le-leb, leb-true}
use Rattle.std.proofs.Math.Facts.{to_z-of_z}
use Rattle.mh_model.specs.declared.picture.drawing.Stroke.{Stroke}
use Rattle.mh_model.specs.Boxes.{IsNear}
use Rattle.mh_model.specs.Drawn.{across, down, steps, gone, goes_through}
use Rattle.mh_display.specs.Strokes.{IsOnly, is_steep, lies_between, place_between}
use Rattle.mh_display.proofs.DrawnLemmas.{backwards, decided, forwards, goes_by_one, gone_some, gone_whole, left_of, not_true, right_of, same, waits}

-- it lies on the way from 0 over this distance
abbrev IsOnWay : ℤ → ℤ → Type 0
IsOnWay d w = unsigned_abs w + unsigned_abs (d -ℤ w) ≡ unsigned_abs d

gone_on_way : (d : ℤ) (k : ℕ) → k ≤ unsigned_abs d → IsOnWay d (gone (unsigned_abs d) d k)
unfolding gone
gone_on_way (pos zero) k le = refl
gone_on_way (pos (suc m)) k le = subst (IsOnWay (pos (suc m))) (sym (gone_some (suc m) k (pos (suc m)) (omega arith) ∙ forwards (suc m) k (omega arith))) (omega (arith, ints, le))
gone_on_way (negsuc m) zero le = subst (IsOnWay (negsuc m)) (sym (gone_some (suc m) 0 (negsuc m) (omega arith) ∙ waits m)) (omega (arith, ints, le))
gone_on_way (negsuc m) (suc k) le = subst (IsOnWay (negsuc m)) (sym (gone_some (suc m) (suc k) (negsuc m) (omega arith) ∙ backwards m k)) (omega (arith, ints, le))

-- what lies on the way is told by how far it is
one_way : (d v w : ℤ) → IsOnWay d v → IsOnWay d w → unsigned_abs v ≡ unsigned_abs w → v ≡ w
one_way d v w e f far = omega (arith, ints, e, f, far)

way_of : (a b z : ℤ) → lies_between a b z ≡ true → IsOnWay (b -ℤ a) (z -ℤ a)
way_of a b z h = grind (arith, ints, h)

between : (a b z w : ℤ) → IsOnWay (b -ℤ a) w → a +ℤ w ≡ z → lies_between a b z ≡ true
between a b z w e is = grind (arith, ints, e, is)

and_true : (x : Bool) → (x && true) ≡ x
and_true true = refl
and_true false = refl

-- the one step that can come to a place in the longer direction does so just where the place lies between both ends
comes_there : (b l r : ℤ) → lies_between b l r ≡ true → (unsigned_abs (r -ℤ b) ≤ unsigned_abs (l -ℤ b)) × (int_eq (b +ℤ gone (unsigned_abs (l -ℤ b)) (l -ℤ b) (unsigned_abs (r -ℤ b))) r ≡ true)
comes_there b l r on =
    let way : IsOnWay (l -ℤ b) (r -ℤ b) = way_of b l r on in
    let le : unsigned_abs (r -ℤ b) ≤ unsigned_abs (l -ℤ b) = omega (arith, way) in
    let is = one_way (l -ℤ b) (gone (unsigned_abs (l -ℤ b)) (l -ℤ b) (unsigned_abs (r -ℤ b))) (r -ℤ b) (gone_on_way (l -ℤ b) (unsigned_abs (r -ℤ b)) le) way (gone_whole (l -ℤ b) (unsigned_abs (r -ℤ b)) le) in
    (le, sym (decided (int_eq (b +ℤ gone (unsigned_abs (l -ℤ b)) (l -ℤ b) (unsigned_abs (r -ℤ b))) r) _ (Decides-int_eq _ r) (ap (λ (z : ℤ). b +ℤ z) is ∙ back)))
  where
    back : b +ℤ (r -ℤ b) ≡ r
    back = omega (arith, ints)

passes : (b l r : ℤ) (k : ℕ) → lies_between b l r ≡ false → k ≤ unsigned_abs (l -ℤ b) → int_eq (b +ℤ gone (unsigned_abs (l -ℤ b)) (l -ℤ b) k) r ≡ true → false ≡ true
passes b l r k off le there = sym off ∙ between b l r (gone (unsigned_abs (l -ℤ b)) (l -ℤ b) k) (gone_on_way (l -ℤ b) k le) (same _ r there)

-- what has to be so for a cell, by whether the line is steep
abbrev told : (d e a b column row : ℤ) (t : Bool) → Bool
told d e a b column row t =
    nat_le (if t then unsigned_abs (row -ℤ b) else unsigned_abs (column -ℤ a)) (if t then unsigned_abs e else unsigned_abs d)
    && (int_eq (a +ℤ gone (if t then unsigned_abs e else unsigned_abs d) d (if t then unsigned_abs (row -ℤ b) else unsigned_abs (column -ℤ a))) column
    && int_eq (b +ℤ gone (if t then unsigned_abs e else unsigned_abs d) e (if t then unsigned_abs (row -ℤ b) else unsigned_abs (column -ℤ a))) row)

goes_as_told : (s : Stroke) (column row : ℤ) (t : Bool) → is_steep s ≡ t → goes_through s column row ≡ told (across s) (down s) s.first.column s.first.row column row t
goes_as_told s column row t e = goes_by_one s column row ∙ ap (told (across s) (down s) s.first.column s.first.row column row) e

one_column : (s : Stroke) (column row : ℤ) → is_steep s ≡ true → lies_between s.first.row s.last.row row ≡ true
    → goes_through s column row ≡ int_eq (s.first.column +ℤ gone (steps s) (across s) (unsigned_abs (row -ℤ s.first.row))) column
one_column s column row steep on =
    let there = comes_there s.first.row s.last.row row on in
    goes_as_told s column row true steep
    ∙ ap (λ (x : Bool). x && (int_eq (s.first.column +ℤ gone (unsigned_abs (down s)) (across s) (unsigned_abs (row -ℤ s.first.row))) column && int_eq (s.first.row +ℤ gone (unsigned_abs (down s)) (down s) (unsigned_abs (row -ℤ s.first.row))) row)) (le-leb _ _ there.0)
    ∙ ap (λ (x : Bool). int_eq (s.first.column +ℤ gone (unsigned_abs (down s)) (across s) (unsigned_abs (row -ℤ s.first.row))) column && x) there.1
    ∙ and_true _
    ∙ ap (λ (t : Bool). int_eq (s.first.column +ℤ gone (if t then unsigned_abs (down s) else unsigned_abs (across s)) (across s) (unsigned_abs (row -ℤ s.first.row))) column) (sym steep)

one_row : (s : Stroke) (column row : ℤ) → is_steep s ≡ false → lies_between s.first.column s.last.column column ≡ true
    → goes_through s column row ≡ int_eq (s.first.row +ℤ gone (steps s) (down s) (unsigned_abs (column -ℤ s.first.column))) row
one_row s column row flat on =
    let there = comes_there s.first.column s.last.column column on in
    goes_as_told s column row false flat
    ∙ ap (λ (x : Bool). x && (int_eq (s.first.column +ℤ gone (unsigned_abs (across s)) (across s) (unsigned_abs (column -ℤ s.first.column))) column && int_eq (s.first.row +ℤ gone (unsigned_abs (across s)) (down s) (unsigned_abs (column -ℤ s.first.column))) row)) (le-leb _ _ there.0)
    ∙ ap (λ (x : Bool). x && int_eq (s.first.row +ℤ gone (unsigned_abs (across s)) (down s) (unsigned_abs (column -ℤ s.first.column))) row) there.1
    ∙ ap (λ (t : Bool). int_eq (s.first.row +ℤ gone (if t then unsigned_abs (down s) else unsigned_abs (across s)) (down s) (unsigned_abs (column -ℤ s.first.column))) row) (sym flat)

no_column : (s : Stroke) (column row : ℤ) → is_steep s ≡ true → lies_between s.first.row s.last.row row ≡ false → goes_through s column row ≡ false
no_column s column row steep off =
    goes_as_told s column row true steep
    ∙ not_true _ (λ h. passes s.first.row s.last.row row (unsigned_abs (row -ℤ s.first.row)) off (leb-true _ _ (left_of _ _ h)) (right_of _ _ (right_of _ _ h)))

no_row : (s : Stroke) (column row : ℤ) → is_steep s ≡ false → lies_between s.first.column s.last.column column ≡ false → goes_through s column row ≡ false
no_row s column row flat off =
    goes_as_told s column row false flat
    ∙ not_true _ (λ h. passes s.first.column s.last.column column (unsigned_abs (column -ℤ s.first.column)) off (leb-true _ _ (left_of _ _ h)) (left_of _ _ (right_of _ _ h)))

-- Places that are numbers without a sign.

same_place : (n k : ℕ) → int_eq (pos n) (pos k) ≡ nat_eq n k
same_place n k = same_from_decides _ _ (Decides-int_eq (pos n) (pos k)) (Decides-like (nat_eq n k) (λ is. ap pos is) (λ is. omega (arith, ints, is)) (Decides-eqb n k))

other_place : (n k : ℕ) → (n ≡ k → false ≡ true) → int_eq (pos n) (pos k) ≡ false
other_place n k apart = not_true _ (λ h. apart (eqb-true n k (sym (same_place n k) ∙ h)))

found : (p : ℕ → Bool) (first last : ℕ) (at : ℤ) → ((k : ℕ) → p k ≡ int_eq at (pos k)) → IsOnly p first last (place_between first last at)
found p first last (negsuc n) is = record { each = λ k low high. is k; inside = tt }
found p first last (pos n) is = by (nat_le first n) refl (nat_lt n last) refl
  where
    by : (a : Bool) → nat_le first n ≡ a → (b : Bool) → nat_lt n last ≡ b → IsOnly p first last (if a && b then Some n else None)
    by true e true f = record { each = λ k low high. is k ∙ same_place n k; inside = (leb-true _ _ e, grind (arith, nat_tests, f)) }
    by true e false f = record { each = λ k low high. is k ∙ other_place n k (λ same. absurd (grind (arith, nat_tests, f, same, high))); inside = tt }
    by false e b f = record { each = λ k low high. is k ∙ other_place n k (λ same. absurd (grind (arith, nat_tests, e, same, low))); inside = tt }

pub found_column : (s : Stroke) (row first last : ℕ) (at : ℤ) (place : Option ℕ) → is_steep s ≡ true → lies_between s.first.row s.last.row (pos row) ≡ true
    → at ≡ s.first.column +ℤ gone (steps s) (across s) (unsigned_abs (pos row -ℤ s.first.row)) → place ≡ place_between first last at
    → IsOnly (λ column. goes_through s (pos column) (pos row)) first last place
found_column s row first last at place steep on is place_is =
    subst (IsOnly (λ column. goes_through s (pos column) (pos row)) first last) (sym place_is)
    (found (λ column. goes_through s (pos column) (pos row)) first last at (λ k. one_column s (pos k) (pos row) steep on ∙ ap (λ (z : ℤ). int_eq z (pos k)) (sym is)))

pub found_row : (s : Stroke) (column first last : ℕ) (at : ℤ) (place : Option ℕ) → is_steep s ≡ false → lies_between s.first.column s.last.column (pos column) ≡ true
    → at ≡ s.first.row +ℤ gone (steps s) (down s) (unsigned_abs (pos column -ℤ s.first.column)) → place ≡ place_between first last at
    → IsOnly (λ row. goes_through s (pos column) (pos row)) first last place
found_row s column first last at place flat on is place_is =
    subst (IsOnly (λ row. goes_through s (pos column) (pos row)) first last) (sym place_is)
    (found (λ row. goes_through s (pos column) (pos row)) first last at (λ k. one_row s (pos column) (pos k) flat on ∙ ap (λ (z : ℤ). int_eq z (pos k)) (sym is)))

pub missed_column : (s : Stroke) (row first last : ℕ) → is_steep s ≡ true → lies_between s.first.row s.last.row (pos row) ≡ false
    → IsOnly (λ column. goes_through s (pos column) (pos row)) first last None
missed_column s row first last steep off = record { each = λ k low high. no_column s (pos k) (pos row) steep off; inside = tt }

pub missed_row : (s : Stroke) (column first last : ℕ) → is_steep s ≡ false → lies_between s.first.column s.last.column (pos column) ≡ false
    → IsOnly (λ row. goes_through s (pos column) (pos row)) first last None
missed_row s column first last flat off = record { each = λ k low high. no_row s (pos column) (pos k) flat off; inside = tt }

-- a sum of two numbers that are not far from 0
pub summed : (a g : ℤ) → IsNear 8589934592 a → IsNear 17179869184 g → to_z w64 (of_z w64 (to_z w64 (of_z w64 a) +ℤ to_z w64 (of_z w64 g))) ≡ a +ℤ g
summed a g near far =
    let left : FitsSigned w64 a = fits_signed_from_abs w64 a (omega (arith, ints, near.0, near.1)) in
    let right : FitsSigned w64 g = fits_signed_from_abs w64 g (omega (arith, ints, far.0, far.1)) in
    let both : FitsSigned w64 (a +ℤ g) = fits_signed_from_abs w64 (a +ℤ g) (omega (arith, ints, near.0, near.1, far.0, far.1)) in
    rw (to_z-of_z left, to_z-of_z right) (to_z-of_z both)
