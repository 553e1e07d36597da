-- A bit for each row: one that has none has no cell with a bit.
use Rattle.std.specs.Prelude.{◌≡◌, ◌≢◌, ℕ, ◌+◌, ◌*◌, ◌/◌, ◌^◌, ◌%◌, ◌<◌, ◌≤◌, ◌==◌, Bool, true, false, nat_eq, nat_lt, bit_and, bit_or, List, Option, slice_index, refl}
use Rattle.std.proofs.Common.{ap, ◌∙◌, sym, arith, subst, w64}
use Rattle.std.specs.Int.{bit_at, bit_not, trailing_zeros}
use Rattle.std.proofs.lemmas.Bool.Decides.{nat_tests}
use Rattle.std.proofs.lemmas.Nat.{and_le_r}
use Rattle.std.proofs.lemmas.Nat.Bits.{bit_at-lt, bit_at-trailing_zeros, bit_at-zero, bit_at_and, bit_at_clear_other, bit_at_ones, bit_at_or, bit_at_set_same}
use Rattle.mh_model.specs.declared.object.Object.{Object}
use Rattle.mh_display.specs.declared.window.Window.{Window}
use Rattle.mh_display.specs.Bits.{AreStale, IsStretch}
use Rattle.mh_display.specs.Painting.{marked_at}
use Rattle.mh_display.specs.Surface.{AreInRows, IsStale, Spoils, Surface, is_in}
use Rattle.mh_display.specs.Windows.{has}
use Rattle.mh_display.proofs.BitLemmas.{set_below, without}

-- the number with this bit
abbrev with_bit : ℕ → ℕ → ℕ
with_bit bits k = bit_or bits (1 * 2 ^ k % 2 ^ 64)

pub row_kept : (bits row : ℕ) → row < 36 → (k : ℕ) → bit_at (with_bit bits row) k ≡ 0 → bit_at bits k ≡ 0
row_kept bits row low k e = omega (arith, bit_at_or bits (1 * 2 ^ row % 2 ^ 64) k, e, bit_at-lt bits k)

pub row_added : (bits row : ℕ) → row < 36 → bit_at (with_bit bits row) row ≡ 1
row_added bits row low = bit_at_set_same w64 bits row (omega (arith, low))

-- one row more is looked at, which has a cell, or none
pub one_found : (rows : List ℕ) (row found after : ℕ) → row < 36 → after ≡ with_bit found row → ((r : ℕ) → r < row → bit_at found r ≡ 0 → slice_index rows r ≡ 0)
    → (r : ℕ) → r < row + 1 → bit_at after r ≡ 0 → slice_index rows r ≡ 0
one_found rows row found after low is before r less none = by (nat_eq r row) refl (ap (λ (n : ℕ). bit_at n r) (sym is) ∙ none)
  where
    by : (b : Bool) → nat_eq r row ≡ b → bit_at (with_bit found row) r ≡ 0 → slice_index rows r ≡ 0
    by true f e =
        let here : r ≡ row = grind (arith, nat_tests, f) in
        absurd (omega (arith, row_added found row low, ap (λ (n : ℕ). bit_at (with_bit found row) n) (sym here), e))
    by false f e = before r (grind (arith, nat_tests, f, less)) (row_kept found row low r e)

pub none_found : (rows : List ℕ) (row found after : ℕ) → slice_index rows row ≡ 0 → after ≡ found → ((r : ℕ) → r < row → bit_at found r ≡ 0 → slice_index rows r ≡ 0)
    → (r : ℕ) → r < row + 1 → bit_at after r ≡ 0 → slice_index rows r ≡ 0
none_found rows row found after empty is before r less none = by (nat_eq r row) refl (ap (λ (n : ℕ). bit_at n r) (sym is) ∙ none)
  where
    by : (b : Bool) → nat_eq r row ≡ b → bit_at found r ≡ 0 → slice_index rows r ≡ 0
    by true f e =
        let here : row ≡ r = grind (arith, nat_tests, f) in
        subst (λ (n : ℕ). slice_index rows n ≡ 0) here empty
    by false f e = before r (grind (arith, nat_tests, f, less)) e

no_bit : (n k : ℕ) → n ≡ 0 → (bit_at n k == 1) ≡ false
no_bit n k is = ap (λ (m : ℕ). m == 1) (ap (λ (m : ℕ). bit_at m k) is ∙ bit_at-zero k)

pub all_found : (rows : List ℕ) (row found : ℕ) → 36 ≤ row → ((r : ℕ) → r < row → bit_at found r ≡ 0 → slice_index rows r ≡ 0) → AreInRows found rows
unfolding is_in
all_found rows row found most before c inside e = no_bit _ (c % 60) (before (c / 60) (grind (arith, inside, most)) e)

-- no row has a bit
pub none_in_rows : (rows : ℕ) (marks : List ℕ) → rows ≡ 0 → AreInRows rows marks → (c : ℕ) → c < 2160 → is_in marks c ≡ false
none_in_rows rows marks is within c inside = within c inside (ap (λ (n : ℕ). bit_at n (c / 60)) is ∙ bit_at-zero (c / 60))

-- each has
pub in_all_rows : (marks : List ℕ) → AreInRows 68719476735 marks
in_all_rows marks c inside e =
    let one : bit_at 68719476735 (c / 60) ≡ 1 = bit_at_ones 36 (c / 60) (grind (arith, inside)) in
    absurd (omega (arith, one, e))

-- what is spoilt stays so
pub still_stale : (o : Option Object) (marks new : List ℕ) → Spoils o marks new → IsStale marks → IsStale new
still_stale o marks new spoils all c inside = by (is_in new c) (λ e. (spoils c inside e).0) (all c inside)
  where
    by : (b : Bool) → (b ≡ false → is_in marks c ≡ false) → is_in marks c ≡ true → b ≡ true
    by true f e = refl
    by false f e = sym (f refl) ∙ e

-- The rows of a window that are still to be looked at.

pub record AreToSee (s : Surface) (w : Window) (bits : ℕ) : Type 0 where
  pub own : (k : ℕ) → bit_at bits k ≡ 1 → (w.top ≤ k) × (k < w.bottom)
  pub rest : (c : ℕ) → c < 2160 → has w c ≡ true → bit_at bits (c / 60) ≡ 0 → (marked_at s c).stale ≡ false

pub fits_to_see : (rows mask : ℕ) → mask < 2 ^ 64 → bit_and rows mask < 2 ^ 64
fits_to_see rows mask small = omega (arith, and_le_r rows mask, small)

pub first_to_see : (s : Surface) (w : Window) (rows mask : ℕ) → AreInRows rows s.marks → IsStretch mask w.top w.bottom → AreToSee s w (bit_and rows mask)
unfolding has
first_to_see s w rows mask within stretch = record {
  own = λ k e. by k e (nat_lt k w.top) refl (nat_lt k w.bottom) refl;
  rest = λ c inside here e.
      let top : w.top ≤ c / 60 = grind (arith, nat_tests, here) in
      let bottom : c / 60 < w.bottom = grind (arith, nat_tests, here) in
      within c inside (omega (arith, bit_at_and rows mask (c / 60), stretch.inside (c / 60) top bottom, e, bit_at-lt rows (c / 60)));
}
  where
    both : (k : ℕ) → bit_at (bit_and rows mask) k ≡ 1 → bit_at mask k ≡ 1
    both k e = omega (arith, bit_at_and rows mask k, e, bit_at-lt mask k)

    by : (k : ℕ) → bit_at (bit_and rows mask) k ≡ 1 → (a : Bool) → nat_lt k w.top ≡ a → (b : Bool) → nat_lt k w.bottom ≡ b → (w.top ≤ k) × (k < w.bottom)
    by k e true f b g = absurd (omega (arith, both k e, stretch.below k (grind (arith, nat_tests, f))))
    by k e false f false g = absurd (omega (arith, both k e, stretch.above k (grind (arith, nat_tests, g))))
    by k e false f true g = (grind (arith, nat_tests, f), grind (arith, nat_tests, g))

pub lowest_to_see : (s : Surface) (w : Window) (bits row : ℕ) → 0 < bits → bits < 2 ^ 64 → row ≡ trailing_zeros w64 bits → AreToSee s w bits → row < w.bottom
lowest_to_see s w bits row some small is see = (see.own row (ap (bit_at bits) is ∙ (bit_at-trailing_zeros w64 bits some small).1)).1

-- nothing is found in the lowest
pub next_to_see : (s : Surface) (w : Window) (bits row after here : ℕ) → 0 < bits → bits < 2 ^ 64 → row ≡ trailing_zeros w64 bits → after ≡ without bits row
    → AreStale s row w.left w.right here → here ≡ 0 → AreToSee s w bits → AreToSee s w after
unfolding has
next_to_see s w bits row after here some small is gone found none see = record {
  own = λ k e. see.own k (omega (arith, subst (λ (n : ℕ). bit_at n k ≡ 1) gone e, bit_at_and bits (bit_not w64 (1 * 2 ^ row % 2 ^ 64)) k, bit_at-lt bits k));
  rest = λ c inside in_window e. by c inside in_window e (nat_eq (c / 60) row) refl;
}
  where
    low : row < 64
    low = set_below bits row small (ap (bit_at bits) is ∙ (bit_at-trailing_zeros w64 bits some small).1)

    by : (c : ℕ) → c < 2160 → has w c ≡ true → bit_at after (c / 60) ≡ 0 → (b : Bool) → nat_eq (c / 60) row ≡ b → (marked_at s c).stale ≡ false
    by c inside in_window e true f =
        let same : c / 60 ≡ row = grind (arith, nat_tests, f) in
        let split : 60 * row + c % 60 ≡ c = omega (arith, same) in
        let empty : bit_at here (c % 60) ≡ 0 = ap (λ (n : ℕ). bit_at n (c % 60)) none ∙ bit_at-zero (c % 60) in
        subst (λ (k : ℕ). (marked_at s k).stale ≡ false) split (found.rest (c % 60) (grind (arith, nat_tests, in_window)) (grind (arith, nat_tests, in_window)) empty)
    by c inside in_window e false f =
        let other : c / 60 ≢ row = λ same. grind (arith, nat_tests, f, same) in
        see.rest c inside in_window (sym (bit_at_clear_other w64 bits row low (c / 60) (grind (arith, inside)) other) ∙ ap (λ (n : ℕ). bit_at n (c / 60)) (sym gone) ∙ e)

pub none_to_see : (s : Surface) (w : Window) (bits : ℕ) → bits ≤ 0 → AreToSee s w bits → (c : ℕ) → c < 2160 → has w c ≡ true → (marked_at s c).stale ≡ false
none_to_see s w bits none see c inside here =
    let zero_now : bits ≡ 0 = omega (arith, none) in
    see.rest c inside here (ap (λ (n : ℕ). bit_at n (c / 60)) zero_now ∙ bit_at-zero (c / 60))
