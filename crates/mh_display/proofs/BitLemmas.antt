-- The cells of a row that are left to be painted, as bits.
use Rattle.std.specs.Prelude.{◌≡◌, ◌≢◌, ℕ, ◌+◌, ◌-◌, ◌*◌, ◌/◌, ◌^◌, ◌%◌, ◌<◌, ◌≤◌, ◌==◌, min, Bool, true, false, nat_eq, nat_lt, bit_and, bit_or, List, length, replicate, slice_index, slice_set, refl}
use Rattle.std.proofs.Common.{ap, ◌∙◌, sym, arith, subst, w64}
use Rattle.std.specs.Int.{bit_at, bit_not, trailing_zeros}
use Rattle.std.proofs.lemmas.Bool.Decides.{nat_tests}
use Rattle.std.proofs.lemmas.List.{get_or-set_same, get_or-set_other, get_or-replicate, get_or_past}
use Rattle.std.proofs.Math.Pow.{pow_mono}
use Rattle.std.proofs.lemmas.Nat.{and_le_l}
use Rattle.std.proofs.lemmas.Nat.Bits.{bit_at-zero, bit_at-lt, bit_at-trailing_zeros, bit_at_clear_same, bit_at_clear_other, bit_at_and, bit_at_above, bit_at_mask_inside, bit_at_ones, bit_at_or, bit_at_set_same, bit_at_set_other, bit_at_mask_below, bit_at_mask_above}
use Rattle.mh_display.specs.declared.marked.Marked.{Marked}
use Rattle.mh_display.specs.Painting.{IsSet, IsBetween, marked_at}
use Rattle.mh_display.specs.Bits.{IsStretch, IsLeft, AreStale}
use Rattle.mh_display.specs.Surface.{Surface, is_in}
use Rattle.mh_display.proofs.CellLemmas.{row_of_cell, column_of_cell}

-- the number without this bit
abbrev pub without : ℕ → ℕ → ℕ
without bits k = bit_and bits (bit_not w64 (1 * 2 ^ k % 2 ^ 64))

-- all bits above 63 are 0
pub set_below : (bits k : ℕ) → bits < 2 ^ 64 → bit_at bits k ≡ 1 → k < 64
set_below bits k small e = by (nat_lt k 64) refl
  where
    by : (b : Bool) → nat_lt k 64 ≡ b → k < 64
    by true f = grind (arith, nat_tests, f)
    by false f = let none : bit_at bits k ≡ 0 = bit_at_above bits 64 k small (grind (arith, nat_tests, f)) in absurd (omega (arith, none, e))

pub stretch : (first last bits : ℕ) → last ≤ 60 → bits ≡ 2 ^ last - 2 ^ min first 60 → IsStretch bits first last
stretch first last bits inside is = by (nat_lt first last) refl
  where
    by : (b : Bool) → nat_lt first last ≡ b → IsStretch bits first last
    by true e =
        let order : first < last = grind (arith, nat_tests, e) in
        let least : min first 60 ≡ first = omega (arith, order, inside) in
        let mask : bits ≡ 2 ^ last - 2 ^ first = is ∙ ap (λ (n : ℕ). 2 ^ last - 2 ^ n) least in
        record {
          inside = λ k low high. ap (λ (n : ℕ). bit_at n k) mask ∙ bit_at_mask_inside first last k low high;
          below = λ k less. ap (λ (n : ℕ). bit_at n k) mask ∙ bit_at_mask_below first last k less;
          above = λ k most. ap (λ (n : ℕ). bit_at n k) mask ∙ bit_at_mask_above first last k most;
        }
    by false e =
        let order : last ≤ first = grind (arith, nat_tests, e) in
        let most : 2 ^ last ≤ 2 ^ min first 60 = pow_mono (omega (arith, order, inside)) in
        let none : bits ≡ 0 = omega (arith, is, most) in
        record {
          inside = λ k low high. absurd (omega (arith, low, high, order));
          below = λ k less. ap (λ (n : ℕ). bit_at n k) none ∙ bit_at-zero k;
          above = λ k more. ap (λ (n : ℕ). bit_at n k) none ∙ bit_at-zero k;
        }

-- at first all that is stale of the stretch is left; what is not stays
pub all_left : (h : ℕ → Marked → Marked) (s : Surface) (row first last bits : ℕ) → ((c : ℕ) (k : Marked) → k.stale ≡ false → k ≡ h c k) → AreStale s row first last bits
    → IsLeft h (marked_at s) (marked_at s) row first last bits
all_left h s row first last bits stays found = record {
  done = λ k low high e. stays (60 * row + k) (marked_at s (60 * row + k)) (found.rest k low high e);
  waits = λ k e. let own = found.own k e in (own.0, own.1, refl);
  before = λ c less. refl;
  behind = λ c most. refl;
}

-- the lowest one is changed
pub next_left : {X : Type 0} (h : ℕ → X → X) (old mid new : ℕ → X) (row first last bits k after : ℕ) → 0 < bits → bits < 2 ^ 64 → k ≡ trailing_zeros w64 bits
    → after ≡ without bits k → IsLeft h old mid row first last bits → IsSet mid new (60 * row + k) (h (60 * row + k) (mid (60 * row + k)))
    → IsLeft h old new row first last after
next_left {X} h old mid new row first last bits k after some small is gone left one = record {
  done = λ j low high e. by j low high e (nat_eq j k) refl;
  waits = λ j e. waiting j e;
  before = λ c less. one.others c (λ same. absurd (omega (arith, less, same, here.0))) ∙ left.before c less;
  behind = λ c most. one.others c (λ same. absurd (omega (arith, most, same, here.1))) ∙ left.behind c most;
}
  where
    lowest : bit_at bits k ≡ 1
    lowest = ap (bit_at bits) is ∙ (bit_at-trailing_zeros w64 bits some small).1

    low : k < 64
    low = set_below bits k small lowest

    here : (first ≤ k) × (k < last) × (mid (60 * row + k) ≡ old (60 * row + k))
    here = left.waits k lowest

    cleared : bit_at after k ≡ 0
    cleared = ap (λ n. bit_at n k) gone ∙ bit_at_clear_same w64 bits k low

    small_after : after < 2 ^ 64
    small_after = omega (arith, and_le_l bits (bit_not w64 (1 * 2 ^ k % 2 ^ 64)), gone, small)

    same : (j : ℕ) → j < 64 → j ≢ k → bit_at after j ≡ bit_at bits j
    same j inside other = ap (λ n. bit_at n j) gone ∙ bit_at_clear_other w64 bits k low j inside other

    waiting : (j : ℕ) → bit_at after j ≡ 1 → (first ≤ j) × (j < last) × (new (60 * row + j) ≡ old (60 * row + j))
    waiting j e =
        let other : j ≢ k = λ is_k. absurd (omega (arith, ap (bit_at after) is_k, e, cleared)) in
        let inside : j < 64 = set_below after j small_after e in
        let before_it = left.waits j (sym (same j inside other) ∙ e) in
        (before_it.0, before_it.1, one.others (60 * row + j) (λ f. other (omega (arith, f))) ∙ before_it.2)

    by : (j : ℕ) → first ≤ j → j < last → bit_at after j ≡ 0 → (b : Bool) → nat_eq j k ≡ b → new (60 * row + j) ≡ h (60 * row + j) (old (60 * row + j))
    by j least most e true f =
        let is_k : k ≡ j = grind (arith, nat_tests, f) in
        subst (λ (n : ℕ). new (60 * row + n) ≡ h (60 * row + n) (old (60 * row + n))) is_k (one.here ∙ ap (h (60 * row + k)) here.2)
    by j least most e false f =
        let other : j ≢ k = λ is_k. grind (arith, nat_tests, f, is_k) in
        one.others (60 * row + j) (λ g. other (omega (arith, g))) ∙ left.done j least most (set j e other (nat_lt j 64) refl)
      where
        set : (j : ℕ) → bit_at after j ≡ 0 → j ≢ k → (b : Bool) → nat_lt j 64 ≡ b → bit_at bits j ≡ 0
        set j e other true g = sym (same j (grind (arith, nat_tests, g)) other) ∙ e
        set j e other false g = bit_at_above bits 64 j small (grind (arith, nat_tests, g))

-- it gets fewer
pub fewer : (bits k after : ℕ) → 0 < bits → bits < 2 ^ 64 → k ≡ trailing_zeros w64 bits → after ≡ without bits k → after < bits
fewer bits k after some small is gone =
    let lowest : bit_at bits k ≡ 1 = ap (bit_at bits) is ∙ (bit_at-trailing_zeros w64 bits some small).1 in
    let cleared : bit_at after k ≡ 0 = ap (λ n. bit_at n k) gone ∙ bit_at_clear_same w64 bits k (set_below bits k small lowest) in
    let other : after ≢ bits = λ same. absurd (omega (arith, ap (λ n. bit_at n k) same, lowest, cleared)) in
    omega (arith, and_le_l bits (bit_not w64 (1 * 2 ^ k % 2 ^ 64)), gone, other)

-- none is left
pub none_left : {X : Type 0} (h : ℕ → X → X) (old new : ℕ → X) (row first last bits : ℕ) → bits ≤ 0 → IsLeft h old new row first last bits
    → IsBetween h old new (60 * row + first) (60 * row + last)
none_left h old new row first last bits none left = record {
  inside = λ c low high.
      let is : 60 * row + (c - 60 * row) ≡ c = omega (arith, low) in
      let zero_now : bits ≡ 0 = omega (arith, none) in
      let empty : bit_at bits (c - 60 * row) ≡ 0 = ap (λ n. bit_at n (c - 60 * row)) zero_now ∙ bit_at-zero (c - 60 * row) in
      subst (λ (n : ℕ). new n ≡ h n (old n)) is (left.done (c - 60 * row) (omega (arith, low)) (omega (arith, low, high)) empty);
  before = left.before;
  behind = left.behind;
}

-- the lowest one lies in the stretch
pub lowest_inside : {X : Type 0} (h : ℕ → X → X) (old mid : ℕ → X) (row first last bits : ℕ) → 0 < bits → bits < 2 ^ 64 → IsLeft h old mid row first last bits
    → trailing_zeros w64 bits < last
lowest_inside h old mid row first last bits some small left = (left.waits (trailing_zeros w64 bits) (bit_at-trailing_zeros w64 bits some small).1).1

-- Cells and their bits.

abbrev bit_of : ℕ → ℕ → Bool
bit_of bits k = bit_at bits k == 1

pub at_cell : (rows : List ℕ) (row column : ℕ) → column < 60 → is_in rows (60 * row + column) ≡ (bit_at (slice_index rows row) column == 1)
unfolding is_in
at_cell rows row column inside = λ i. bit_at (slice_index rows (row_of_cell row column inside i)) (column_of_cell row column inside i) == 1

zero_bit : (n : ℕ) → n < 2 → (n == 1) ≡ false → n ≡ 0
zero_bit n small e = grind (arith, nat_tests, small, e)

not_set : (n : ℕ) → n ≡ 0 → (n == 1) ≡ false
not_set n e = ap (λ (m : ℕ). m == 1) e

is_set_now : (n : ℕ) → n ≡ 1 → (n == 1) ≡ true
is_set_now n e = ap (λ (m : ℕ). m == 1) e

-- a row is masked
pub found_stale : (s : Surface) (row first last mask bits : ℕ) → last ≤ 60 → IsStretch mask first last → bits ≡ bit_and (slice_index s.marks row) mask → AreStale s row first last bits
found_stale s row first last mask bits inside own is = record {
  own = λ k e. by k e (nat_lt k first) refl (nat_lt k last) refl;
  rest = λ k low high e. at_cell s.marks row k (omega (arith, high, inside)) ∙ not_set _ (omega (arith, bit_at_and (slice_index s.marks row) mask k, ap (λ n. bit_at n k) is, own.inside k low high, e, bit_at-lt (slice_index s.marks row) k));
}
  where
    both : (k : ℕ) → bit_at bits k ≡ 1 → bit_at mask k ≡ 1
    both k e = omega (arith, bit_at_and (slice_index s.marks row) mask k, ap (λ n. bit_at n k) is, e, bit_at-lt mask k)

    by : (k : ℕ) → bit_at bits k ≡ 1 → (a : Bool) → nat_lt k first ≡ a → (b : Bool) → nat_lt k last ≡ b → (first ≤ k) × (k < last)
    by k e true f b g = absurd (omega (arith, both k e, own.below k (grind (arith, nat_tests, f))))
    by k e false f false g = absurd (omega (arith, both k e, own.above k (grind (arith, nat_tests, g))))
    by k e false f true g = (grind (arith, nat_tests, f), grind (arith, nat_tests, g))

-- a row that is not written
elsewhere : (rows after : List ℕ) (row x c : ℕ) → after ≡ slice_set rows row x → c / 60 ≢ row → is_in after c ≡ is_in rows c
unfolding is_in
elsewhere rows after row x c is other =
    ap (λ (n : ℕ). bit_at n (c % 60) == 1) (ap (λ (ns : List ℕ). slice_index ns (c / 60)) is ∙ get_or-set_other rows row (c / 60) x 0 other)

-- one bit of a row is set or taken
pub set_here : (rows after : List ℕ) (row column x : ℕ) (on : Bool) → row < length rows → column < 60 → after ≡ slice_set rows row x → bit_of x column ≡ on
    → ((k : ℕ) → k < 60 → k ≢ column → bit_at x k ≡ bit_at (slice_index rows row) k) → IsSet (is_in rows) (is_in after) (60 * row + column) on
set_here rows after row column x on inside wide is here others = record {
  here = at_cell after row column wide ∙ ap (λ (n : ℕ). bit_at n column == 1) (ap (λ (ns : List ℕ). slice_index ns row) is ∙ get_or-set_same rows row x 0 inside) ∙ here;
  others = λ c apart. by c apart (nat_eq (c / 60) row) refl;
}
  where
    by : (c : ℕ) → c ≢ 60 * row + column → (b : Bool) → nat_eq (c / 60) row ≡ b → is_in after c ≡ is_in rows c
    by c apart true e =
        let same : c / 60 ≡ row = grind (arith, nat_tests, e) in
        let split : 60 * row + c % 60 ≡ c = omega (arith, same) in
        let low : c % 60 < 60 = grind arith in
        let other : c % 60 ≢ column = λ f. apart (omega (arith, split, f)) in
        ap (is_in after) (sym split) ∙ at_cell after row (c % 60) low
        ∙ ap (λ (n : ℕ). bit_at n (c % 60) == 1) (ap (λ (ns : List ℕ). slice_index ns row) is ∙ get_or-set_same rows row x 0 inside)
        ∙ ap (λ (n : ℕ). n == 1) (others (c % 60) low other) ∙ sym (at_cell rows row (c % 60) low) ∙ ap (is_in rows) split
    by c apart false e = elsewhere rows after row x c is (λ f. grind (arith, nat_tests, e, f))

pub set_bit : (rows : List ℕ) (row column : ℕ) (on : Bool) → on ≡ true → row < length rows → column < 60 → IsSet (is_in rows) (is_in (slice_set rows row (bit_or (slice_index rows row) (1 * 2 ^ column % 2 ^ 64)))) (60 * row + column) on
set_bit rows row column on is inside wide =
    set_here rows (slice_set rows row (bit_or (slice_index rows row) (1 * 2 ^ column % 2 ^ 64))) row column (bit_or (slice_index rows row) (1 * 2 ^ column % 2 ^ 64)) on inside wide refl
    (is_set_now _ (bit_at_set_same w64 (slice_index rows row) column (omega (arith, wide))) ∙ sym is)
    (λ k small other. bit_at_set_other w64 (slice_index rows row) column (omega (arith, wide)) k other)

pub take_bit : (rows : List ℕ) (row column : ℕ) (on : Bool) → on ≡ false → row < length rows → column < 60 → IsSet (is_in rows) (is_in (slice_set rows row (bit_and (slice_index rows row) (bit_not w64 (1 * 2 ^ column % 2 ^ 64))))) (60 * row + column) on
take_bit rows row column on is inside wide =
    set_here rows (slice_set rows row (bit_and (slice_index rows row) (bit_not w64 (1 * 2 ^ column % 2 ^ 64)))) row column (bit_and (slice_index rows row) (bit_not w64 (1 * 2 ^ column % 2 ^ 64))) on inside wide refl
    (not_set _ (bit_at_clear_same w64 (slice_index rows row) column (omega (arith, wide))) ∙ sym is)
    (λ k small other. bit_at_clear_other w64 (slice_index rows row) column (omega (arith, wide)) k (omega (arith, small)) other)

-- the bits of a stretch are set
pub add_bits : (rows after : List ℕ) (row bits first last : ℕ) → row < length rows → last ≤ 60 → IsStretch bits first last → after ≡ slice_set rows row (bit_or (slice_index rows row) bits)
    → IsBetween (λ c b. true) (is_in rows) (is_in after) (60 * row + first) (60 * row + last)
add_bits rows after row bits first last inside wide own is = record {
  inside = λ c low high.
      let k : ℕ = c - 60 * row in
      let split : 60 * row + (c - 60 * row) ≡ c = omega (arith, low) in
      let small : (c - 60 * row) < 60 = omega (arith, low, high, wide) in
      ap (is_in after) (sym split) ∙ here (c - 60 * row) small
      ∙ is_set_now _ (omega (arith, bit_at_or (slice_index rows row) bits (c - 60 * row), own.inside (c - 60 * row) (omega (arith, low)) (omega (arith, low, high)), bit_at-lt (slice_index rows row) (c - 60 * row)));
  before = λ c less. by c (nat_eq (c / 60) row) refl (λ same. own.below (c % 60) (grind (arith, less, same)));
  behind = λ c most. by c (nat_eq (c / 60) row) refl (λ same. own.above (c % 60) (grind (arith, most, same)));
}
  where
    here : (k : ℕ) → k < 60 → is_in after (60 * row + k) ≡ (bit_at (bit_or (slice_index rows row) bits) k == 1)
    here k small = at_cell after row k small ∙ ap (λ (n : ℕ). bit_at n k == 1) (ap (λ (ns : List ℕ). slice_index ns row) is ∙ get_or-set_same rows row (bit_or (slice_index rows row) bits) 0 inside)

    by : (c : ℕ) → (b : Bool) → nat_eq (c / 60) row ≡ b → (c / 60 ≡ row → bit_at bits (c % 60) ≡ 0) → is_in after c ≡ is_in rows c
    by c true e none =
        let same : c / 60 ≡ row = grind (arith, nat_tests, e) in
        let split : 60 * row + c % 60 ≡ c = omega (arith, same) in
        let low : c % 60 < 60 = grind arith in
        ap (is_in after) (sym split) ∙ here (c % 60) low
        ∙ ap (λ (n : ℕ). n == 1) (omega (arith, bit_at_or (slice_index rows row) bits (c % 60), none same))
        ∙ sym (at_cell rows row (c % 60) low) ∙ ap (is_in rows) split
    by c false e none = elsewhere rows after row (bit_or (slice_index rows row) bits) c is (λ f. grind (arith, nat_tests, e, f))

-- rows of nothing
pub none_in : (rows : List ℕ) → ((row : ℕ) → row < length rows → slice_index rows row ≡ 0) → (c : ℕ) → is_in rows c ≡ false
unfolding is_in
none_in rows none c = not_set _ (by (nat_lt (c / 60) (length rows)) refl)
  where
    by : (b : Bool) → nat_lt (c / 60) (length rows) ≡ b → bit_at (slice_index rows (c / 60)) (c % 60) ≡ 0
    by true e = ap (λ (n : ℕ). bit_at n (c % 60)) (none (c / 60) (grind (arith, nat_tests, e))) ∙ bit_at-zero (c % 60)
    by false e = ap (λ (n : ℕ). bit_at n (c % 60)) (get_or_past rows (c / 60) 0 (grind (arith, nat_tests, e))) ∙ bit_at-zero (c % 60)

-- rows that are all the same
pub of_same : (rows : List ℕ) (n c : ℕ) → rows ≡ replicate 36 n → c < 2160 → is_in rows c ≡ (bit_at n (c % 60) == 1)
unfolding is_in
of_same rows n c is inside =
    let low : c / 60 < 36 = grind (arith, inside) in
    ap (λ (m : ℕ). bit_at m (c % 60) == 1) (ap (λ (ns : List ℕ). slice_index ns (c / 60)) is ∙ get_or-replicate {A = ℕ} 36 (c / 60) n 0 low)

pub all_stale : (rows : List ℕ) → rows ≡ replicate 36 0x0FFFFFFFFFFFFFFF → (c : ℕ) → c < 2160 → is_in rows c ≡ true
all_stale rows is c inside =
    let low : c % 60 < 60 = grind arith in
    of_same rows 0x0FFFFFFFFFFFFFFF c is inside ∙ is_set_now _ (bit_at_ones 60 (c % 60) low)

pub none_stale_at_first : (rows : List ℕ) → rows ≡ replicate 36 0 → (c : ℕ) → c < 2160 → is_in rows c ≡ false
none_stale_at_first rows is c inside = of_same rows 0 c is inside ∙ not_set _ (bit_at-zero (c % 60))
