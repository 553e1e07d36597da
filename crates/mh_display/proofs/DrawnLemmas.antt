-- In the longer direction each step goes on by one cell, so one number of steps at most comes to a cell.
use Rattle.std.specs.Prelude.{◌≡◌, ℕ, zero, suc, ◌+◌, ◌*◌, ◌/◌, ◌<◌, ◌≤◌, nat_le, nat_eq, Bool, true, false, ◌&&◌, ◌||◌, if◌then◌else◌, ℤ, pos, negsuc, ◌+ℤ◌, ◌-ℤ◌, ◌*ℤ◌, refl}
use Rattle.std.specs.Int.{int_div_euclid}
use Rattle.std.specs.Int.RustNames.{unsigned_abs}
use Rattle.std.specs.Ordering.{int_eq}
use Rattle.std.proofs.Common.{arith, ap, sym, ◌∙◌, subst, SFits, of_z, to_z, w64}
use Rattle.std.specs.Bool.{Decides}
use Rattle.std.proofs.lemmas.Bool.Decides.{Decides-int_eq}
use Rattle.std.proofs.lemmas.Int.{ints, unsigned_abs-mul}
use Rattle.std.proofs.Math.Facts.{to_z-of_z}
use Rattle.std.proofs.lemmas.Bool.{eq-eqb, eqb-true, leb-true}
use Rattle.std.proofs.Math.Nat.{mul-le-mul}
use Rattle.std.proofs.lemmas.Bool.{le-leb}
use Rattle.std.proofs.lemmas.Nat.{div-mul-add}
use Rattle.std.proofs.Math.IntN.{neg_ℤ, pos-*ℤ-pos, pos-*ℤ-negsuc}
use Rattle.mh_model.specs.declared.picture.drawing.Stroke.{Stroke}
use Rattle.mh_model.specs.Boxes.{IsNear}
use Rattle.mh_model.specs.Drawn.{across, down, steps, gone, comes_to, some_to, goes_through}
use Rattle.mh_display.specs.Strokes.{step_to}

none_to : (n : ℕ) (p : ℕ → Bool) → ((m : ℕ) → m ≤ n → p m ≡ false) → some_to n p ≡ false
none_to zero p none = none 0 (omega arith)
none_to (suc n) p none = ap (λ (b : Bool). b || some_to n p) (none (suc n) (omega arith)) ∙ none_to n p (λ m le. none m (omega (arith, le)))

found_to : (n m : ℕ) (p : ℕ → Bool) → m ≤ n → p m ≡ true → some_to n p ≡ true
found_to zero m p le holds = subst (λ (k : ℕ). p k ≡ true) (omega (arith, le)) holds
found_to (suc n) m p le holds = grind (arith, found_to n m p)

pub not_true : (b : Bool) → (b ≡ true → false ≡ true) → b ≡ false
not_true true f = sym (f refl)
not_true false f = refl

-- it holds of one number at most
only_one : (n k : ℕ) (p : ℕ → Bool) → ((m : ℕ) → m ≤ n → p m ≡ true → m ≡ k) → some_to n p ≡ (nat_le k n && p k)
only_one n k p only = decide (nat_le k n) (p k) refl refl
  where
    decide : (t b : Bool) → nat_le k n ≡ t → p k ≡ b → some_to n p ≡ (t && b)
    decide true true le holds = found_to n k p (leb-true k n le) holds
    decide true false le fails = none_to n p (λ m l. not_true (p m) (λ h. sym fails ∙ ap p (sym (only m l h)) ∙ h))
    decide false b above fails = none_to n p (λ m l. not_true (p m) (λ h. sym above ∙ le-leb k n (omega (arith, l, only m l h))))

-- forwards a step goes on by 1, and backwards by -1
pub forwards : (n k : ℕ) → 0 < n → int_div_euclid ((pos (2 * k) *ℤ pos n) +ℤ pos n) (pos (2 * n)) ≡ pos k
forwards n k some =
    let product : (2 * k) * n + n ≡ k * (2 * n) + n = omega arith in
    ap (λ (z : ℤ). int_div_euclid (z +ℤ pos n) (pos (2 * n))) (pos-*ℤ-pos (2 * k) n)
    ∙ ap pos (ap (λ (x : ℕ). x / (2 * n)) product ∙ div-mul-add k (2 * n) n (omega (arith, some)))

pub backwards : (m k : ℕ) → int_div_euclid ((pos (2 * suc k) *ℤ negsuc m) +ℤ pos (suc m)) (pos (2 * suc m)) ≡ negsuc k
backwards m k =
    let product : (2 * suc k) * suc m ≡ k * (2 * suc m) + (2 * suc m) = omega arith in
    let sum : neg_ℤ (pos (k * (2 * suc m) + (2 * suc m))) +ℤ pos (suc m) ≡ negsuc (k * (2 * suc m) + m) = omega (arith, ints) in
    ap (λ (z : ℤ). int_div_euclid (z +ℤ pos (suc m)) (pos (2 * suc m))) (pos-*ℤ-negsuc (2 * suc k) m ∙ ap (λ (x : ℕ). neg_ℤ (pos x)) product)
    ∙ ap (λ (z : ℤ). int_div_euclid z (pos (2 * suc m))) sum
    ∙ ap negsuc (div-mul-add k (2 * suc m) m (omega arith))

pub waits : (m : ℕ) → int_div_euclid ((pos 0 *ℤ negsuc m) +ℤ pos (suc m)) (pos (2 * suc m)) ≡ pos 0
waits m =
    let start : neg_ℤ (pos (0 * suc m)) +ℤ pos (suc m) ≡ pos (0 * (2 * suc m) + suc m) = omega (arith, ints) in
    ap (λ (z : ℤ). int_div_euclid z (pos (2 * suc m))) start ∙ ap pos (div-mul-add 0 (2 * suc m) (suc m) (omega arith))

pub gone_some : (n k : ℕ) (d : ℤ) → 0 < n → gone n d k ≡ int_div_euclid ((pos (2 * k) *ℤ d) +ℤ pos n) (pos (2 * n))
unfolding gone
gone_some n k d some =
    let more : nat_eq n 0 ≡ false = not_true (nat_eq n 0) (λ h. absurd (omega (arith, some, eqb-true n 0 h))) in
    rw more refl

pub gone_whole : (d : ℤ) (k : ℕ) → k ≤ unsigned_abs d → unsigned_abs (gone (unsigned_abs d) d k) ≡ k
unfolding gone
gone_whole (pos zero) k le = omega (arith, le)
gone_whole (pos (suc m)) k le = ap unsigned_abs (gone_some (suc m) k (pos (suc m)) (omega arith) ∙ forwards (suc m) k (omega arith))
gone_whole (negsuc m) zero le = ap unsigned_abs (gone_some (suc m) 0 (negsuc m) (omega arith) ∙ waits m)
gone_whole (negsuc m) (suc k) le = ap unsigned_abs (gone_some (suc m) (suc k) (negsuc m) (omega arith) ∙ backwards m k)

pub decided : (b : Bool) (P : Type 0) → Decides b P → P → true ≡ b
decided b P d p = sym (d.1 p)

pub refuted : (b : Bool) (P : Type 0) → Decides b P → (P → false ≡ true) → false ≡ b
refuted true P d p = p (d.0 refl)
refuted false P d p = refl

pub same : (x y : ℤ) → int_eq x y ≡ true → x ≡ y
same x y e = (Decides-int_eq x y).0 e

longer_step : (d a r : ℤ) (k : ℕ) → k ≤ unsigned_abs d → int_eq (a +ℤ gone (unsigned_abs d) d k) r ≡ true → k ≡ unsigned_abs (r -ℤ a)
longer_step d a r k le e =
    sym (gone_whole d k le) ∙ ap unsigned_abs (less (gone (unsigned_abs d) d k) (same (a +ℤ gone (unsigned_abs d) d k) r e))
  where
    less : (g : ℤ) → a +ℤ g ≡ r → g ≡ r -ℤ a
    less g is = omega (arith, ints, is)

pub left_of : (x y : Bool) → (x && y) ≡ true → x ≡ true
left_of true y h = refl
left_of false y h = h

pub right_of : (x y : Bool) → (x && y) ≡ true → y ≡ true
right_of true y h = h
right_of false y h = absurd cc

step_in : (d e a b column row : ℤ) (k : ℕ) (t : Bool) → k ≤ (if t then unsigned_abs e else unsigned_abs d) → (int_eq (a +ℤ gone (if t then unsigned_abs e else unsigned_abs d) d k) column && int_eq (b +ℤ gone (if t then unsigned_abs e else unsigned_abs d) e k) row) ≡ true → k ≡ (if t then unsigned_abs (row -ℤ b) else unsigned_abs (column -ℤ a))
step_in d e a b column row k true le h = longer_step e b row k le (right_of (int_eq (a +ℤ gone (unsigned_abs e) d k) column) (int_eq (b +ℤ gone (unsigned_abs e) e k) row) h)
step_in d e a b column row k false le h = longer_step d a column k le (left_of (int_eq (a +ℤ gone (unsigned_abs d) d k) column) (int_eq (b +ℤ gone (unsigned_abs d) e k) row) h)

pub goes_by_one : (s : Stroke) (column row : ℤ) → goes_through s column row ≡ (nat_le (step_to s column row) (steps s) && comes_to s column row (step_to s column row))
goes_by_one s column row =
    only_one (steps s) (step_to s column row) (comes_to s column row)
    (λ k le h. step_in (across s) (down s) s.first.column s.first.row column row k (nat_le (unsigned_abs (across s)) (unsigned_abs (down s))) le h)

pub is_reached : (s : Stroke) (column row : ℤ) (k n : ℕ) (b : Bool) → k ≡ step_to s column row → n ≡ steps s → nat_le k n ≡ true → b ≡ comes_to s column row k → b ≡ goes_through s column row
is_reached s column row k n b is all le answer =
    answer ∙ ap (comes_to s column row) is
    ∙ ap (λ (t : Bool). t && comes_to s column row (step_to s column row)) (sym le ∙ ap (λ (m : ℕ). nat_le m n) is ∙ ap (nat_le (step_to s column row)) all)
    ∙ sym (goes_by_one s column row)

pub is_too_far : (s : Stroke) (column row : ℤ) (k n : ℕ) → k ≡ step_to s column row → n ≡ steps s → nat_le k n ≡ false → nat_le k n ≡ goes_through s column row
is_too_far s column row k n is all far =
    far
    ∙ ap (λ (t : Bool). t && comes_to s column row (step_to s column row)) (sym far ∙ ap (λ (m : ℕ). nat_le m n) is ∙ ap (nat_le (step_to s column row)) all)
    ∙ sym (goes_by_one s column row)

-- two distances of 64 bits are the same where their bits are
pub same_so_far : (a g r d : ℤ) → SFits w64 g → SFits w64 d → d ≡ r -ℤ a → nat_eq (of_z w64 g) (of_z w64 d) ≡ int_eq (a +ℤ g) r
same_so_far a g r d f h is = decide (nat_eq (of_z w64 g) (of_z w64 d)) refl
  where
    decide : (t : Bool) → nat_eq (of_z w64 g) (of_z w64 d) ≡ t → t ≡ int_eq (a +ℤ g) r
    decide true e =
        let bits : of_z w64 g ≡ of_z w64 d = eqb-true (of_z w64 g) (of_z w64 d) e in
        let one : g ≡ d = sym (to_z-of_z f) ∙ ap (to_z w64) bits ∙ to_z-of_z h in
        decided (int_eq (a +ℤ g) r) (a +ℤ g ≡ r) (Decides-int_eq (a +ℤ g) r) (omega (arith, ints, one, is))
    decide false e =
        refuted (int_eq (a +ℤ g) r) (a +ℤ g ≡ r) (Decides-int_eq (a +ℤ g) r)
        (λ there. let one : g ≡ d = omega (arith, ints, there, is) in let bits : of_z w64 g ≡ of_z w64 d = ap (of_z w64) one in sym e ∙ eq-eqb (of_z w64 g) (of_z w64 d) bits)

-- what is not far from 0, doubled and taken as many times
pub doubled : (k : ℕ) (d : ℤ) → k ≤ 65536 → IsNear 0xFFFF d → unsigned_abs (pos (2 * k) *ℤ d) ≤ 8589934592
doubled k d few near =
    let times : 2 * k ≤ 131072 = omega (arith, few) in
    let far : unsigned_abs d ≤ 65536 = omega (arith, ints, near.0, near.1) in
    omega (arith, unsigned_abs-mul (pos (2 * k)) d, mul-le-mul times far)

pub is_near : (z : ℤ) → unsigned_abs z ≤ 8589934592 → IsNear 8589934592 z
is_near z h = (omega (arith, ints, h), omega (arith, ints, h))
