-- What bits tell of the cells of a row.
use Rattle.std.specs.Prelude.{◌≡◌, ◌≢◌, ℕ, zero, suc, ◌+◌, ◌-◌, ◌*◌, ◌/◌, ◌%◌, ◌^◌, ◌<◌, ◌≤◌, ◌==◌, max, min, replicate, Bool, true, false, nat_eq, nat_lt, nat_le, not, ◌&&◌, ◌||◌, if◌then◌else◌, bit_and, bit_or, List, [], ◌∷◌, length, slice_index, slice_range, refl}
use Rattle.std.specs.Int.{bit_at, bit_not, trailing_zeros, leading_zeros}
use Rattle.std.specs.Simd.Lanes.{chunk}
use Rattle.std.proofs.lemmas.Simd.{get_or-chunk, length-chunk, get_or-zip2, length-zip2, get_or-replicate, length-replicate, tops_compared, mask_l-mod, mask_l-lt, bit_mask_l}
use lib.Lanes.{zip2, mask_l, top}
use Rattle.std.specs.List.{list_all, suffix_len}
use Rattle.std.proofs.Common.{ap, ◌∙◌, sym, arith, subst, get_or, take, drop, w32, w64, cond, map}
use Rattle.std.proofs.lemmas.Bool.Decides.{nat_tests}
use Rattle.std.proofs.lemmas.List.Folds.{list_all_at}
use Rattle.std.proofs.lemmas.List.Sums.{suffix_len_is}
use Rattle.std.proofs.Math.Nat.{two-pow-succ}
use Rattle.std.proofs.lemmas.Nat.{and_mask, and_le_l, mod_below, leading_length, shl_whole, pow_pos, le-div, div_below, one_shl}
use Rattle.std.proofs.lemmas.Nat.Bits.{bit_at-zero, bit_at-lt, bit_at-trailing_zeros, bit_at_clear_same, bit_at_clear_other, bit_at_and, bit_at_above, bit_at_ones, bit_at_or, bit_at-pow_same, bit_at-pow_other, bit_at_cat_low, bit_at_cat_high}
use Rattle.mh_model.specs.Planes.{Planes, IsWhole}
use Rattle.mh_told.specs.Frame.{is_space, shown_length}
use Rattle.mh_told.specs.Masks.{flag, Tells, TellsEight, IsBehindBits, IsShown, changes, is_written, is_last}
use Rattle.mh_told.specs.Stretch.{have_colours, stretch}
use Rattle.mh_told.proofs.StretchLemmas.{length-range}

-- Bits.

-- a number that is shifted
shifted_low : (b n k : ℕ) → k < n → bit_at (b * 2 ^ n) k ≡ 0
shifted_low b n k less =
    let none : b * 2 ^ n + 0 ≡ b * 2 ^ n = omega arith in
    ap (λ (m : ℕ). bit_at m k) (sym none) ∙ bit_at_cat_low b n 0 k less ∙ bit_at-zero k

shifted_high : (b n k : ℕ) → n ≤ k → bit_at (b * 2 ^ n) k ≡ bit_at b (k - n)
shifted_high b n k most =
    let none : b * 2 ^ n + 0 ≡ b * 2 ^ n = omega arith in
    ap (λ (m : ℕ). bit_at m k) (sym none) ∙ bit_at_cat_high b n 0 k (pow_pos n) most

pub nothing_told : (p : ℕ → Bool) → Tells (λ k. nat_lt k 0 && p k) 0
nothing_told p = record { each = λ k low. bit_at-zero k ∙ sym (none k); above = λ k high. bit_at-zero k }
  where
    none : (k : ℕ) → flag (nat_lt k 0 && p k) ≡ 0
    none k = let past : nat_lt k 0 ≡ false = grind (arith, nat_tests) in ap (λ (c : Bool). flag (c && p k)) past

flag_below : (b : Bool) → flag b < 2
flag_below true = omega arith
flag_below false = omega arith

flag_or : (a b : Bool) → max (flag a) (flag b) ≡ flag (a || b)
flag_or true true = refl
flag_or true false = refl
flag_or false true = refl
flag_or false false = refl

either : (a b : Bool) → ((a && b) || b) ≡ b
either true true = refl
either true false = refl
either false b = refl

-- eight more places
pub eight_told : (p : ℕ → Bool) (start from at top bits block shifted : ℕ) → from ≤ at → from + 8 ≡ top → at ≤ top → top ≤ 60
    → shifted ≡ block * 2 ^ from % 2 ^ 64 → Tells (λ k. nat_lt k at && p (start + k)) bits → TellsEight p (start + from) block
    → Tells (λ k. nat_lt k top && p (start + k)) (bit_or bits shifted)
eight_told p start from at top bits block shifted low is within inside moved told eight = record {
  each = λ k small. bit_at_or bits shifted k ∙ by k small (nat_lt k from) refl (nat_lt k top) refl;
  above = λ k high. bit_at_or bits shifted k ∙ grind (arith, told.above k high, past k (omega (arith, high, inside)));
}
  where
    whole : shifted ≡ block * 2 ^ from
    whole = moved ∙ shl_whole block 8 from 64 eight.small (omega (arith, is, inside))

    past : (k : ℕ) → top ≤ k → bit_at shifted k ≡ 0
    past k high = ap (λ (m : ℕ). bit_at m k) whole ∙ shifted_high block from k (omega (arith, high, is)) ∙ bit_at_above block 8 (k - from) eight.small (omega (arith, high, is))

    before : (k : ℕ) → k < from → bit_at shifted k ≡ 0
    before k less = ap (λ (m : ℕ). bit_at m k) whole ∙ shifted_low block from k less

    here : (k : ℕ) → from ≤ k → k < top → bit_at shifted k ≡ flag (p (start + k))
    here k least most =
        let place : start + from + (k - from) ≡ start + k = omega (arith, least) in
        ap (λ (m : ℕ). bit_at m k) whole ∙ shifted_high block from k least ∙ eight.each (k - from) (omega (arith, least, most, is)) ∙ ap (λ (m : ℕ). flag (p m)) place

    by : (k : ℕ) → k < 60 → (a : Bool) → nat_lt k from ≡ a → (b : Bool) → nat_lt k top ≡ b → max (bit_at bits k) (bit_at shifted k) ≡ flag (nat_lt k top && p (start + k))
    by k small true e b f =
        let less : k < from = grind (arith, nat_tests, e) in
        let inner : nat_lt k at ≡ true = grind (arith, nat_tests, less, low) in
        let outer : nat_lt k top ≡ true = grind (arith, nat_tests, less, low, within) in
        let one : bit_at bits k ≡ flag (p (start + k)) = told.each k small ∙ ap (λ (c : Bool). flag (c && p (start + k))) inner in
        omega (arith, one, before k less) ∙ ap (λ (c : Bool). flag (c && p (start + k))) (sym outer)
    by k small false e true f =
        let least : from ≤ k = grind (arith, nat_tests, e) in
        let most : k < top = grind (arith, nat_tests, f) in
        ap (max (bit_at bits k)) (here k least most) ∙ ap (λ (n : ℕ). max n (flag (p (start + k)))) (told.each k small)
        ∙ flag_or (nat_lt k at && p (start + k)) (p (start + k)) ∙ ap flag (either (nat_lt k at) (p (start + k)) ∙ ap (λ (c : Bool). c && p (start + k)) (sym f))
    by k small false e false f =
        let high : top ≤ k = grind (arith, nat_tests, f) in
        let outer : nat_lt k at ≡ false = grind (arith, nat_tests, high, within) in
        let one : bit_at bits k ≡ 0 = told.each k small ∙ ap (λ (c : Bool). flag (c && p (start + k))) outer in
        omega (arith, one, past k high) ∙ ap (λ (c : Bool). flag (c && p (start + k))) (sym f)

-- what both tell
pub both_told : (p q : ℕ → Bool) (a b : ℕ) → Tells p a → Tells q b → Tells (λ k. p k || q k) (bit_or a b)
both_told p q a b one other = record {
  each = λ k small. bit_at_or a b k ∙ ap (λ (n : ℕ). max n (bit_at b k)) (one.each k small) ∙ ap (max (flag (p k))) (other.each k small) ∙ flag_or (p k) (q k);
  above = λ k high. bit_at_or a b k ∙ omega (arith, one.above k high, other.above k high);
}

-- what is told in other words
pub told_also : (p q : ℕ → Bool) (bits : ℕ) → ((k : ℕ) → k < 60 → p k ≡ q k) → Tells p bits → Tells q bits
told_also p q bits same told = record { each = λ k small. told.each k small ∙ ap flag (same k small); above = told.above }

-- one bit alone
pub one_told : (n : ℕ) → n < 60 → Tells (λ k. nat_eq k n) (2 ^ n)
one_told n inside = record {
  each = λ k small. by k (nat_eq k n) refl;
  above = λ k high. bit_at-pow_other n k (λ same. absurd (omega (arith, same, high, inside)));
}
  where
    by : (k : ℕ) → (b : Bool) → nat_eq k n ≡ b → bit_at (2 ^ n) k ≡ flag (nat_eq k n)
    by k true e = let same : k ≡ n = grind (arith, nat_tests, e) in ap (bit_at (2 ^ n)) same ∙ bit_at-pow_same n ∙ ap flag (sym e)
    by k false e = bit_at-pow_other n k (λ same. absurd (grind (arith, nat_tests, e, same))) ∙ ap flag (sym e)

-- The lowest bit.

abbrev pub without : ℕ → ℕ → ℕ
without bits k = bit_and bits (bit_not w64 (1 * 2 ^ k % 2 ^ 64))

flag_one : (b : Bool) → flag b ≡ 1 → b ≡ true
flag_one true e = refl
flag_one false e = absurd (omega (arith, e))

flag_zero : (b : Bool) → flag b ≡ 0 → b ≡ false
flag_zero true e = absurd (omega (arith, e))
flag_zero false e = refl

and_left : (a b : Bool) → (a && b) ≡ true → a ≡ true
and_left true b e = refl
and_left false b e = e

and_right : (a b : Bool) → (a && b) ≡ true → b ≡ true
and_right true b e = e
and_right false b e = absurd cc

-- where a number is known to have a bit, its lowest one is the next that the test holds of, and it is told without it of those behind
pub record IsNext (p : ℕ → Bool) (first last after : ℕ) : Type 0 where
  pub low : first ≤ last
  pub high : last < 60
  pub here : p last ≡ true
  pub between : (k : ℕ) → first ≤ k → k < last → p k ≡ false
  pub rest : Tells (λ k. nat_le (last + 1) k && p k) after

some_bit : (p : ℕ → Bool) (first bits : ℕ) → first < 60 → p 59 ≡ true → Tells (λ k. nat_le first k && p k) bits → 0 < bits
some_bit p first bits inside ends told = by (nat_lt 0 bits) refl
  where
    by : (b : Bool) → nat_lt 0 bits ≡ b → 0 < bits
    by true e = grind (arith, nat_tests, e)
    by false e =
        let none : bits ≡ 0 = grind (arith, nat_tests, e) in
        let reached : nat_le first 59 ≡ true = grind (arith, nat_tests, inside) in
        let set : bit_at bits 59 ≡ 1 = told.each 59 (omega arith) ∙ ap (λ (c : Bool). flag (c && p 59)) reached ∙ ap flag ends in
        absurd (omega (arith, set, ap (λ (n : ℕ). bit_at n 59) none ∙ bit_at-zero 59))

next_bit : (p : ℕ → Bool) (first bits last after : ℕ) → 0 < bits → bits < 2 ^ 64 → last ≡ trailing_zeros w64 bits → after ≡ without bits last
    → Tells (λ k. nat_le first k && p k) bits → IsNext p first last after
next_bit p first bits last after some small is gone told = record {
  low = low;
  high = high;
  here = and_right (nat_le first last) (p last) there;
  between = λ k least less. middle k least less;
  rest = record { each = λ k inside. each k inside; above = λ k past. above k past };
}
  where
    lowest : bit_at bits last ≡ 1
    lowest = ap (bit_at bits) is ∙ (bit_at-trailing_zeros w64 bits some small).1

    high : last < 60
    high = by (nat_lt last 60) refl
      where
        by : (b : Bool) → nat_lt last 60 ≡ b → last < 60
        by true e = grind (arith, nat_tests, e)
        by false e = absurd (omega (arith, lowest, told.above last (grind (arith, nat_tests, e))))

    there : (nat_le first last && p last) ≡ true
    there = flag_one (nat_le first last && p last) (sym (told.each last high) ∙ lowest)

    low : first ≤ last
    low = let reached : nat_le first last ≡ true = and_left (nat_le first last) (p last) there in grind (arith, nat_tests, reached)

    middle : (k : ℕ) → first ≤ k → k < last → p k ≡ false
    middle k least less =
        let none : bit_at bits k ≡ 0 = (bit_at-trailing_zeros w64 bits some small).2 k (omega (arith, less, is)) in
        let reached : nat_le first k ≡ true = grind (arith, nat_tests, least) in
        flag_zero (p k) (ap (λ (c : Bool). flag (c && p k)) (sym reached) ∙ sym (told.each k (omega (arith, less, high))) ∙ none)

    cleared : bit_at after last ≡ 0
    cleared = ap (λ n. bit_at n last) gone ∙ bit_at_clear_same w64 bits last (omega (arith, high))

    same : (k : ℕ) → k < 64 → k ≢ last → bit_at after k ≡ bit_at bits k
    same k inside other = ap (λ n. bit_at n k) gone ∙ bit_at_clear_other w64 bits last (omega (arith, high)) k inside other

    small_after : after < 2 ^ 64
    small_after = omega (arith, and_le_l bits (bit_not w64 (1 * 2 ^ last % 2 ^ 64)), gone, small)

    above : (k : ℕ) → 60 ≤ k → bit_at after k ≡ 0
    above k past = by (nat_lt k 64) refl
      where
        by : (b : Bool) → nat_lt k 64 ≡ b → bit_at after k ≡ 0
        by true e = same k (grind (arith, nat_tests, e)) (λ f. absurd (omega (arith, f, past, high))) ∙ told.above k past
        by false e = bit_at_above after 64 k small_after (grind (arith, nat_tests, e))

    each : (k : ℕ) → k < 60 → bit_at after k ≡ flag (nat_le (last + 1) k && p k)
    each k inside = by (nat_lt k last) refl (nat_eq k last) refl
      where
        by : (a : Bool) → nat_lt k last ≡ a → (b : Bool) → nat_eq k last ≡ b → bit_at after k ≡ flag (nat_le (last + 1) k && p k)
        by true e b f =
            let less : k < last = grind (arith, nat_tests, e) in
            let none : bit_at bits k ≡ 0 = (bit_at-trailing_zeros w64 bits some small).2 k (omega (arith, less, is)) in
            let past : nat_le (last + 1) k ≡ false = grind (arith, nat_tests, less) in
            same k (omega (arith, inside)) (λ g. absurd (omega (arith, g, less))) ∙ none ∙ ap (λ (c : Bool). flag (c && p k)) (sym past)
        by false e true f =
            let at : k ≡ last = grind (arith, nat_tests, f) in
            let past : nat_le (last + 1) k ≡ false = grind (arith, nat_tests, at) in
            ap (bit_at after) at ∙ cleared ∙ ap (λ (c : Bool). flag (c && p k)) (sym past)
        by false e false f =
            let reached : nat_le (last + 1) k ≡ true = grind (arith, nat_tests, e, f) in
            let before : nat_le first k ≡ true = grind (arith, nat_tests, e, f, low) in
            same k (omega (arith, inside)) (λ g. absurd (grind (arith, nat_tests, f, g))) ∙ told.each k inside
            ∙ ap (λ (c : Bool). flag (c && p k)) before ∙ ap (λ (c : Bool). flag (c && p k)) (sym reached)

-- Eight numbers at once.

compared : (t : ℕ → ℕ → Bool) (p : ℕ → Bool) (at : ℕ) (us vs : List ℕ) → length us ≡ 8 → length vs ≡ 8 → ((k : ℕ) → k < 8 → t (get_or us k 0) (get_or vs k 0) ≡ p (at + k))
    → TellsEight p at (mask_l (map (top 31) (zip2 (λ a b. cond (t a b) 4294967295 0) us vs)) % 2 ^ 64)
compared t p at us vs long same says = record {
  each = λ k small.
      ap (λ (n : ℕ). bit_at n k) is ∙ bit_mask_l (zip2 t us vs) k
      ∙ ap (λ (b : Bool). cond b 1 0) (get_or-zip2 t us vs k 0 0 false (omega (arith, small, long)) (omega (arith, small, same)) ∙ says k small);
  small = let below : mask_l (zip2 t us vs) < 2 ^ 8 = subst (λ (n : ℕ). mask_l (zip2 t us vs) < 2 ^ n) eight (mask_l-lt (zip2 t us vs)) in omega (arith, is, below);
}
  where
    eight : length (zip2 t us vs) ≡ 8
    eight = length-zip2 t us vs (long ∙ sym same) ∙ long

    is : mask_l (map (top 31) (zip2 (λ a b. cond (t a b) 4294967295 0) us vs)) % 2 ^ 64 ≡ mask_l (zip2 t us vs)
    is = ap (λ (bs : List Bool). mask_l bs % 2 ^ 64) (tops_compared w32 t us vs) ∙ mask_l-mod (zip2 t us vs) 64 (omega (arith, eight))

pub changes_eight : (xs : List ℕ) (at : ℕ) → at + 9 ≤ length xs
    → TellsEight (changes xs) at (mask_l (map (top 31) (zip2 (λ a b. cond (not (nat_eq a b)) 4294967295 0) (chunk at 8 xs) (chunk (at + 1) 8 xs))) % 2 ^ 64)
changes_eight xs at inside =
    compared (λ a b. not (nat_eq a b)) (changes xs) at (chunk at 8 xs) (chunk (at + 1) 8 xs) (length-chunk at 8 xs (omega (arith, inside))) (length-chunk (at + 1) 8 xs (omega (arith, inside)))
    (λ k small.
    let next : at + 1 + k ≡ at + k + 1 = omega arith in
    let here = get_or-chunk at 8 xs k 0 small in
    let behind = get_or-chunk (at + 1) 8 xs k 0 small ∙ ap (λ (n : ℕ). slice_index xs n) next in
    λ i. not (nat_eq (here i) (behind i)))

pub written_eight : (xs : List ℕ) (at : ℕ) → at + 8 ≤ length xs
    → TellsEight (is_written xs) at (mask_l (map (top 31) (zip2 (λ a b. cond (not (nat_eq a b)) 4294967295 0) (chunk at 8 xs) (replicate 8 32))) % 2 ^ 64)
written_eight xs at inside =
    compared (λ a b. not (nat_eq a b)) (is_written xs) at (chunk at 8 xs) (replicate 8 32) (length-chunk at 8 xs inside) (length-replicate {A = ℕ} 8 32)
    (λ k small.
    let here = get_or-chunk at 8 xs k 0 small in
    let space = get_or-replicate {A = ℕ} 8 k 32 0 small in
    λ i. not (nat_eq (here i) (space i)))

-- all 60 are told
pub whole_told : (p : ℕ → Bool) (bits : ℕ) → Tells (λ k. nat_lt k 60 && p k) bits → Tells p bits
whole_told p bits told = told_also (λ k. nat_lt k 60 && p k) p bits (λ k small. let inside : nat_lt k 60 ≡ true = grind (arith, nat_tests, small) in ap (λ (c : Bool). c && p k) inside) told

-- from the first on
pub told_first : (p : ℕ → Bool) (bits : ℕ) → Tells p bits → Tells (λ k. nat_le 0 k && p k) bits
told_first p bits told = told_also p (λ k. nat_le 0 k && p k) bits (λ k small. let reached : nat_le 0 k ≡ true = grind (arith, nat_tests) in ap (λ (c : Bool). c && p k) (sym reached)) told

-- The last columns of runs.

either_changes : (a b c : Bool) → (((true && not a) || (true && not b)) || c) ≡ (c || not (a && b))
either_changes true true c = or_false c
  where
    or_false : (c : Bool) → c ≡ (c || false)
    or_false true = refl
    or_false false = refl
either_changes true false true = refl
either_changes true false false = refl
either_changes false b true = refl
either_changes false b false = refl

any_last : (a b : Bool) → (a || b || true) ≡ true
any_last true b = refl
any_last false true = refl
any_last false false = refl

pub lasts_told : (p : Planes) (j fores backs : ℕ) → Tells (λ k. nat_lt k 59 && changes p.fores (j * 60 + k)) fores → Tells (λ k. nat_lt k 59 && changes p.backs (j * 60 + k)) backs
    → Tells (is_last p j) (bit_or (bit_or fores backs) 576460752303423488)
lasts_told p j fores backs one other =
    told_also (λ k. ((nat_lt k 59 && changes p.fores (j * 60 + k)) || (nat_lt k 59 && changes p.backs (j * 60 + k))) || nat_eq k 59) (is_last p j) (bit_or (bit_or fores backs) 576460752303423488)
    (λ k small. by k small (nat_eq k 59) refl)
    (both_told (λ k. (nat_lt k 59 && changes p.fores (j * 60 + k)) || (nat_lt k 59 && changes p.backs (j * 60 + k))) (λ k. nat_eq k 59) (bit_or fores backs) 576460752303423488
    (both_told (λ k. nat_lt k 59 && changes p.fores (j * 60 + k)) (λ k. nat_lt k 59 && changes p.backs (j * 60 + k)) fores backs one other) (one_told 59 (omega arith)))
  where
    by : (k : ℕ) → k < 60 → (b : Bool) → nat_eq k 59 ≡ b → (((nat_lt k 59 && changes p.fores (j * 60 + k)) || (nat_lt k 59 && changes p.backs (j * 60 + k))) || nat_eq k 59) ≡ is_last p j k
    by k small true e =
        ap (λ (c : Bool). ((nat_lt k 59 && changes p.fores (j * 60 + k)) || (nat_lt k 59 && changes p.backs (j * 60 + k))) || c) e
        ∙ any_last (nat_lt k 59 && changes p.fores (j * 60 + k)) (nat_lt k 59 && changes p.backs (j * 60 + k))
        ∙ ap (λ (c : Bool). c || not (have_colours p (j * 60 + k) (j * 60 + (k + 1)))) (sym e)
    by k small false e =
        let inside : nat_lt k 59 ≡ true = grind (arith, nat_tests, small, e) in
        let next : j * 60 + k + 1 ≡ j * 60 + (k + 1) = omega arith in
        ap (λ (c : Bool). ((c && changes p.fores (j * 60 + k)) || (c && changes p.backs (j * 60 + k))) || nat_eq k 59) inside
        ∙ either_changes (nat_eq (slice_index p.fores (j * 60 + k)) (slice_index p.fores (j * 60 + k + 1))) (nat_eq (slice_index p.backs (j * 60 + k)) (slice_index p.backs (j * 60 + k + 1))) (nat_eq k 59)
        ∙ ap (λ (n : ℕ). nat_eq k 59 || not (have_colours p (j * 60 + k) n)) next

-- The highest bit.

top_bit : (a j : ℕ) → 2 ^ j ≤ a → a < 2 ^ j + 2 ^ j → bit_at a j ≡ 1
top_bit a j low high =
    let least : 1 ≤ a / 2 ^ j = le-div 1 a (2 ^ j) (pow_pos j) (omega (arith, low)) in
    let most : a / 2 ^ j < 2 = div_below a (2 ^ j) 2 (pow_pos j) (omega (arith, high)) in
    omega (arith, least, most)

highest : (a m : ℕ) → a < 2 ^ m → 2 ^ m ≤ 2 * a + 1 → 0 < m → bit_at a (m - 1) ≡ 1
highest a zero low high some = absurd (omega (arith, some))
highest a (suc j) low high some =
    let one : suc j - 1 ≡ j = omega arith in
    ap (bit_at a) one ∙ top_bit a j (omega (arith, high, two-pow-succ j)) (omega (arith, low, two-pow-succ j))

behind_at : (a m : ℕ) → m ≤ 64 → a < 2 ^ m → 2 ^ m ≤ 2 * a + 1 → IsBehindBits a m
behind_at a m within low high = record { within = within; above = λ k past. bit_at_above a m k low past; highest = highest a m low high }

pub behind_is : (a : ℕ) → a < 2 ^ 64 → IsBehindBits a (64 - leading_zeros w64 a)
behind_is a small =
    let found = leading_length 64 a small in
    let is : 64 - leading_zeros w64 a ≡ found.0 = omega (arith, found.1) in
    subst (IsBehindBits a) (sym is) (behind_at a found.0 (omega (arith, found.1)) found.2 found.3)

pub below_is : (bits column : ℕ) → column < 64 → bit_and bits (1 * 2 ^ column % 18446744073709551616 - 1) ≡ bits % 2 ^ column
below_is bits column inside = ap (λ (n : ℕ). bit_and bits (n - 1)) (one_shl column 64 inside) ∙ and_mask bits column

-- How much of a run is printed.

below_same : (bits n k : ℕ) → k < n → bit_at (bits % 2 ^ n) k ≡ bit_at bits k
below_same bits n k less =
    ap (λ (m : ℕ). bit_at m k) (sym (and_mask bits n)) ∙ bit_at_and bits (2 ^ n - 1) k ∙ omega (arith, bit_at_ones n k less, bit_at-lt bits k)

not_not : (b : Bool) → not b ≡ false → b ≡ true
not_not true e = refl
not_not false e = absurd cc

not_so : (b : Bool) → not b ≡ true → b ≡ false
not_so true e = absurd cc
not_so false e = refl

all_of : (p : ℕ → Bool) (xs : List ℕ) → ((k : ℕ) → k < length xs → p (get_or xs k 0) ≡ true) → list_all p xs ≡ true
all_of p [] each = refl
all_of p (x ∷ xs) each = ap (λ (b : Bool). b && list_all p xs) (each 0 (omega arith)) ∙ all_of p xs (λ k inside. each (suc k) (omega (arith, inside)))

ends_shown : (cs : List ℕ) (n : ℕ) → n ≤ length cs → ((k : ℕ) → n ≤ k → k < length cs → is_space (get_or cs k 0) ≡ true) → (0 < n → is_space (get_or cs (n - 1) 0) ≡ false) → IsShown cs n
ends_shown cs n within spaces ends =
    let left : suffix_len is_space cs ≡ length cs - n = suffix_len_is is_space cs n 0 within spaces ends in
    record { shown = omega (arith, left, within); blank = by (nat_eq n 0) refl }
  where
    by : (b : Bool) → nat_eq n 0 ≡ b → nat_eq n 0 ≡ list_all is_space cs
    by true e = let none : n ≡ 0 = grind (arith, nat_tests, e) in e ∙ sym (all_of is_space cs (λ k inside. spaces k (omega (arith, none)) inside))
    by false e = let some : 0 < n = grind (arith, nat_tests, e) in e ∙ sym (list_all_at is_space cs (n - 1) 0 (omega (arith, some, within)) (ends some))

pub shown_is : (p : Planes) (j first last bits masked behind : ℕ) → IsWhole p → j < 36 → first ≤ last → last < 60 → Tells (λ k. is_written p.scalars (j * 60 + k)) bits
    → masked ≡ bits % 2 ^ (last + 1) → IsBehindBits masked behind → IsShown (stretch p j first (last + 1)).scalars (behind - first)
shown_is p j first last bits masked behind whole row low high told is ends = ends_shown cs (behind - first) (omega (arith, long, within, low)) spaces marked
  where
    cs : List ℕ
    cs = slice_range p.scalars (j * 60 + first) (j * 60 + (last + 1))

    long : length cs ≡ (j * 60 + (last + 1)) - (j * 60 + first)
    long = length-range p.scalars (j * 60 + first) (j * 60 + (last + 1)) (omega (arith, whole.scalars, row, high))

    small : masked < 2 ^ (last + 1)
    small = omega (arith, is, mod_below bits (2 ^ (last + 1)) (pow_pos (last + 1)))

    within : behind ≤ last + 1
    within = by (nat_lt (last + 1) behind) refl
      where
        by : (b : Bool) → nat_lt (last + 1) behind ≡ b → behind ≤ last + 1
        by true e =
            let past : last + 1 < behind = grind (arith, nat_tests, e) in
            absurd (omega (arith, ends.highest (omega (arith, past)), bit_at_above masked (last + 1) (behind - 1) small (omega (arith, past))))
        by false e = grind (arith, nat_tests, e)

    at : (k : ℕ) → k < length cs → get_or cs k 0 ≡ slice_index p.scalars (j * 60 + (first + k))
    at k inside =
        let place : j * 60 + first + k ≡ j * 60 + (first + k) = omega arith in
        get_or-chunk (j * 60 + first) ((j * 60 + (last + 1)) - (j * 60 + first)) p.scalars k 0 (omega (arith, inside, long)) ∙ ap (λ (n : ℕ). slice_index p.scalars n) place

    bit_is : (column : ℕ) → column < last + 1 → bit_at masked column ≡ flag (is_written p.scalars (j * 60 + column))
    bit_is column inside = ap (λ (n : ℕ). bit_at n column) is ∙ below_same bits (last + 1) column inside ∙ told.each column (omega (arith, inside, high))

    spaces : (k : ℕ) → behind - first ≤ k → k < length cs → is_space (get_or cs k 0) ≡ true
    spaces k least inside =
        let column : first + k < last + 1 = omega (arith, inside, long, low) in
        let none : flag (is_written p.scalars (j * 60 + (first + k))) ≡ 0 = sym (bit_is (first + k) column) ∙ ends.above (first + k) (omega (arith, least)) in
        ap is_space (at k inside) ∙ not_not (is_space (slice_index p.scalars (j * 60 + (first + k)))) (flag_zero (is_written p.scalars (j * 60 + (first + k))) none)

    marked : 0 < behind - first → is_space (get_or cs ((behind - first) - 1) 0) ≡ false
    marked some =
        let column : first + ((behind - first) - 1) ≡ behind - 1 = omega (arith, some) in
        let set : flag (is_written p.scalars (j * 60 + (behind - 1))) ≡ 1 = sym (bit_is (behind - 1) (omega (arith, some, within))) ∙ ends.highest (omega (arith, some)) in
        ap is_space (at ((behind - first) - 1) (omega (arith, some, long, within, low)) ∙ ap (λ (n : ℕ). slice_index p.scalars (j * 60 + n)) column)
        ∙ not_so (is_space (slice_index p.scalars (j * 60 + (behind - 1)))) (flag_one (is_written p.scalars (j * 60 + (behind - 1))) set)

-- The runs of a row, by their last columns.

pub some_run : (p : Planes) (j first bits : ℕ) → first < 60 → Tells (λ k. nat_le first k && is_last p j k) bits → 0 < bits
some_run p j first bits inside told = some_bit (is_last p j) first bits inside refl told

pub next_run : (p : Planes) (j first bits last after : ℕ) → first < 60 → bits < 2 ^ 64 → last ≡ trailing_zeros w64 bits → after ≡ without bits last → Tells (λ k. nat_le first k && is_last p j k) bits
    → IsNext (is_last p j) first last after
next_run p j first bits last after inside small is gone told = next_bit (is_last p j) first bits last after (some_run p j first bits inside told) small is gone told
