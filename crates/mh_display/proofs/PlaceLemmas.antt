-- Lists that are gone through place by place.
use Rattle.std.specs.Prelude.{◌≡◌, ℕ, zero, suc, ◌+◌, ◌<◌, Bool, true, false, if◌then◌else◌, nat_lt, List, [], ◌∷◌, drop, take, Option, Some, None, length, replicate, slice_get, slice_index, slice_set, ℤ, pos, negsuc, ◌+ℤ◌, ◌-ℤ◌, refl}
use Rattle.std.proofs.Common.{ap, ◌∙◌, sym, arith, inl, inr}
use Rattle.std.proofs.lemmas.Bool.Decides.{eqb_tells, nat_tests}
use Rattle.std.proofs.lemmas.Int.{ints}
use Rattle.std.proofs.lemmas.List.{get_or-replicate, get_or-set_other, get_or-set_same}
use Rattle.mh_model.specs.declared.picture.line.Line.{Line}
use Rattle.mh_model.specs.Boxes.{or_zero}
use Rattle.mh_model.specs.Layout.{character_in, member_at, unless_space}
use Rattle.mh_display.specs.Places.{behind_at, now_at, scalar_at, scalar_within}

drop_next : {X : Type 0} (n : ℕ) (xs : List X) → drop 1 (drop n xs) ≡ drop (suc n) xs
drop_next zero xs = refl
drop_next (suc n) [] = refl
drop_next (suc n) (x ∷ xs) = drop_next n xs

-- the next place
one_on : {X : Type 0} (z : ℤ) (xs : List X) → behind_at z (drop (or_zero z) xs) ≡ drop (or_zero (z +ℤ pos 1)) xs
one_on (pos n) xs =
    let there : pos n +ℤ pos 1 ≡ pos (suc n) = grind (arith, ints) in
    drop_next n xs ∙ ap (λ (w : ℤ). drop (or_zero w) xs) (sym there)
one_on (negsuc zero) xs =
    let there : negsuc zero +ℤ pos 1 ≡ pos 0 = grind (arith, ints) in
    ap (λ (w : ℤ). drop (or_zero w) xs) (sym there)
one_on (negsuc (suc n)) xs =
    let there : negsuc (suc n) +ℤ pos 1 ≡ negsuc n = grind (arith, ints) in
    ap (λ (w : ℤ). drop (or_zero w) xs) (sym there)

pub next_place : {X : Type 0} (k : ℕ) (first : ℤ) (all xs rest : List X) → xs ≡ drop (or_zero (pos k -ℤ first)) all → rest ≡ behind_at (pos k -ℤ first) xs → rest ≡ drop (or_zero (pos (k + 1) -ℤ first)) all
next_place k first all xs rest here left =
    let there : (pos k -ℤ first) +ℤ pos 1 ≡ pos (k + 1) -ℤ first = grind (arith, ints) in
    left ∙ ap (behind_at (pos k -ℤ first)) here ∙ one_on (pos k -ℤ first) all ∙ ap (λ (w : ℤ). drop (or_zero w) all) there

-- what stands there
first_of_rest : {X : Type 0} (n : ℕ) (xs : List X) → slice_get (drop n xs) 0 ≡ slice_get xs n
first_of_rest zero xs = refl
first_of_rest (suc n) [] = refl
first_of_rest (suc n) (x ∷ xs) = first_of_rest n xs

there_is : {X : Type 0} (z : ℤ) (xs : List X) → now_at z (drop (or_zero z) xs) ≡ member_at xs z
there_is (pos n) xs = first_of_rest n xs
there_is (negsuc n) xs = refl

pub member_now : {X : Type 0} (z : ℤ) (all xs : List X) (o : Option X) → xs ≡ drop (or_zero z) all → o ≡ now_at z xs → o ≡ member_at all z
member_now z all xs o here is = is ∙ ap (now_at z) here ∙ there_is z all

-- a line's scalar
blank : (n : ℕ) (xs : List ℕ) → unless_space (Some (scalar_within n 0 xs)) ≡ None
blank n [] = refl
blank n (x ∷ xs) = ap (λ (b : Bool). unless_space (Some (if b then x else 0x20))) none
  where
    none : nat_lt n 0 ≡ false
    none = grind (arith, nat_tests)

shorter : (n l : ℕ) (xs : List ℕ) → scalar_within (suc n) (suc l) xs ≡ scalar_within n l xs
shorter n l [] = refl
shorter n l (x ∷ xs) = ap (λ (b : Bool). if b then x else 0x20) same
  where
    same : nat_lt (suc n) (suc l) ≡ nat_lt n l
    same = grind (arith, nat_tests)

within_line : (n length : ℕ) (xs : List ℕ) → unless_space (Some (scalar_within n length (drop n xs))) ≡ unless_space (slice_get (take length xs) n)
within_line n zero xs = blank n (drop n xs)
within_line zero (suc l) [] = refl
within_line zero (suc l) (x ∷ xs) = ap (λ (b : Bool). unless_space (Some (if b then x else 0x20))) some
  where
    some : nat_lt 0 (suc l) ≡ true
    some = grind (arith, nat_tests)
within_line (suc n) (suc l) [] = refl
within_line (suc n) (suc l) (x ∷ xs) = ap (λ (y : ℕ). unless_space (Some y)) (shorter n l (drop n xs)) ∙ within_line n l xs

pub line_shows : (z : ℤ) (length : ℕ) (xs : List ℕ) → unless_space (Some (scalar_at z length xs)) ≡ unless_space (member_at (take length xs) z)
line_shows (pos n) length xs = within_line n length xs
line_shows (negsuc n) length xs = refl

-- what a row shows, where each scalar stands in its column
pub shows : (column : ℕ) (first begin : ℤ) (length scalar : ℕ) (line : Line) (xs : List ℕ) → begin ≡ first +ℤ pos line.column → line.scalars ≡ take length xs → scalar ≡ scalar_at (pos column -ℤ begin) length xs
    → unless_space (Some scalar) ≡ character_in (Some line) (pos column -ℤ first)
shows column first begin length scalar line xs starts own is =
    let place : pos column -ℤ begin ≡ (pos column -ℤ first) -ℤ pos line.column = ap (λ (b : ℤ). pos column -ℤ b) starts ∙ apart column line.column first in
    ap (λ (x : ℕ). unless_space (Some x)) is
    ∙ line_shows (pos column -ℤ begin) length xs
    ∙ ap (λ (ys : List ℕ). unless_space (member_at ys (pos column -ℤ begin))) (sym own)
    ∙ ap (λ (z : ℤ). unless_space (member_at line.scalars z)) place
  where
    apart : (c l : ℕ) (f : ℤ) → pos c -ℤ (f +ℤ pos l) ≡ (pos c -ℤ f) -ℤ pos l
    apart c l f = omega (arith, ints)

-- one more column
pub one_put : (f : ℕ → ℕ) (xs : List ℕ) (n x : ℕ) → n < length xs → x ≡ f n → ((k : ℕ) → k < n → slice_index xs k ≡ f k) → (k : ℕ) → k < n + 1 → slice_index (slice_set xs n x) k ≡ f k
one_put f xs n x inside here before k below = elim (eqb_tells k n) [
  | inl h ↦ ap (slice_index (slice_set xs n x)) h.1 ∙ get_or-set_same xs n x 0 inside ∙ here ∙ ap f (sym h.1)
  | inr h ↦ get_or-set_other xs n k x 0 h.1 ∙ before k (omega (arith, below, h.1))
]

-- a row of spaces
pub all_blank : (xs : List ℕ) → xs ≡ replicate 60 0x20 → (column : ℕ) → column < 60 → unless_space (Some (slice_index xs column)) ≡ None
all_blank xs is column inside =
    ap (λ (x : ℕ). unless_space (Some x)) (ap (λ (l : List ℕ). slice_index l column) is ∙ get_or-replicate {A = ℕ} 60 column 0x20 0 inside)
