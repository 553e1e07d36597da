-- The octets that tell a length: what is read from them, and what stands where a length was read.
use Rattle.std.proofs.Common.{◌≡◌, ℕ, zero, suc, ◌+◌, ◌-◌, ◌<◌, ◌≤◌, inl, inr, Bool, true, false, ◌||◌, ◌==◌, nat_lt, if◌then◌else◌, List, [], ◌∷◌, ◌++◌, length, take, drop, get_or, Result, Ok, Err, refl, sym, ◌∙◌, ap, subst, arith, length-append, length-take, take-append-drop}
use Rattle.std.proofs.Math.Seq.{take-append_seam}
use Rattle.std.proofs.lemmas.Bool.{cases_lt}
use Rattle.std.proofs.lemmas.Bool.Decides.{nat_tests}
use Rattle.std.specs.Int.Digits.{digits_of, number_from_digits, AllBelowBase}
use Rattle.std.proofs.lemmas.Int.Digits.{number_digits_of, first_digits_of}
use Rattle.mh_der.specs.declared.der_error.Why.{Why}
use Rattle.mh_der.specs.declared.der_error.Why.TheVariants.{Truncated, LongLength, Indefinite}
use Rattle.mh_der.specs.Element.{length_octets}
use Rattle.mh_der.specs.Reading.{begins_with_zero, held, long_length, length_of}
use Rattle.mh_der.proofs.DigitLemmas.{below_take, digits_number}
use Rattle.mh_der.proofs.TagLemmas.{no_value, first_same, second_same}

above : (b n : ℕ) → nat_lt b n ≡ false → n ≤ b
above b n h = grind (arith, nat_tests)

test_less : (b n : ℕ) → b < n → nat_lt b n ≡ true
test_less b n h = grind (arith, nat_tests)

test_above : (b n : ℕ) → n ≤ b → nat_lt b n ≡ false
test_above b n h = grind (arith, nat_tests)

test_other : (b n : ℕ) → n < b → (b == n) ≡ false
test_other b n h = grind (arith, nat_tests)

held_is : (n : ℕ) (rest : List ℕ) → n ≤ length rest → held n rest ≡ Ok (n, rest)
held_is n rest h = rw (test_above (length rest) n h) refl

pub drop_seam : (xs ys : List ℕ) → drop (length xs) (xs ++ ys) ≡ ys
drop_seam [] ys = refl
drop_seam (x ∷ xs) ys = drop_seam xs ys

pub octets_short : (n : ℕ) → n < 128 → length_octets n ≡ n ∷ []
unfolding length_octets
octets_short n h = rw (test_less n 128 h) refl

pub octets_long : (n : ℕ) → 128 ≤ n → length_octets n ≡ (128 + length (digits_of 256 n)) ∷ digits_of 256 n
unfolding length_octets
octets_long n h = rw (test_above n 128 h) refl

-- a length has an octet at least
pub octets_some : (n : ℕ) → 0 < length (length_octets n)
octets_some n =
    elim (cases_lt n 128) [
      | inl small ↦ omega (arith, ap (λ (xs : List ℕ). length xs) (octets_short n small))
      | inr large ↦ omega (arith, ap (λ (xs : List ℕ). length xs) (octets_long n large))
    ]

length_end : length_of [] ≡ Err Truncated
unfolding length_of
length_end = refl

length_short : (b : ℕ) (bs : List ℕ) → b < 128 → length_of (b ∷ bs) ≡ held b bs
unfolding length_of
length_short b bs h = rw (test_less b 128 h) refl

length_open : (bs : List ℕ) → length_of (128 ∷ bs) ≡ Err Indefinite
unfolding length_of
length_open bs = refl

length_cut : (k : ℕ) (bs : List ℕ) → 0 < k → length bs < k → length_of ((128 + k) ∷ bs) ≡ Err Truncated
unfolding length_of
length_cut k bs some h =
    let count : (128 + k) - 128 ≡ k = omega arith in
    rw (test_above (128 + k) 128 (omega arith), test_other (128 + k) 128 (omega arith), count, test_less (length bs) k h) refl

length_long : (k : ℕ) (bs : List ℕ) → 0 < k → k ≤ length bs → length_of ((128 + k) ∷ bs) ≡ long_length (take k bs) (drop k bs)
unfolding length_of
length_long k bs some h =
    let count : (128 + k) - 128 ≡ k = omega arith in
    rw (test_above (128 + k) 128 (omega arith), test_other (128 + k) 128 (omega arith), count, test_above (length bs) k h) refl

long_is : (n : ℕ) (ds rest : List ℕ) → begins_with_zero ds ≡ false → number_from_digits 256 ds ≡ n → 128 ≤ n → n ≤ length rest → long_length ds rest ≡ Ok (n, rest)
unfolding long_length
long_is n ds rest first is large h =
    rw (first, is, test_above n 128 large, test_above (length rest) n h) refl

-- the length is read from its octets
first_not_zero : (ds : List ℕ) → 0 < get_or ds 0 0 → begins_with_zero ds ≡ false
first_not_zero [] h = refl
first_not_zero (d ∷ ds) h = test_other d 0 h

some_digits : (ds : List ℕ) → 0 < get_or ds 0 0 → 0 < length ds
some_digits [] h = absurd (omega arith)
some_digits (d ∷ ds) h = omega arith

given_long : (n : ℕ) (rest : List ℕ) → 128 ≤ n → n ≤ length rest → length_of (length_octets n ++ rest) ≡ Ok (n, rest)
given_long n rest h g =
    let ds = digits_of 256 n in
    let first : 0 < get_or ds 0 0 = first_digits_of 256 n (omega arith) (omega arith) in
    let few : length ds ≤ length (ds ++ rest) = omega (arith, length-append ds rest) in
    ap (λ (xs : List ℕ). length_of (xs ++ rest)) (octets_long n h)
    ∙ length_long (length ds) (ds ++ rest) (some_digits ds first) few
    ∙ ap (λ (xs : List ℕ). long_length xs (drop (length ds) (ds ++ rest))) (take-append_seam ds rest)
    ∙ ap (long_length ds) (drop_seam ds rest)
    ∙ long_is n ds rest (first_not_zero ds first) (number_digits_of 256 n (omega arith)) h g

pub length_given : (n : ℕ) (rest : List ℕ) → n ≤ length rest → length_of (length_octets n ++ rest) ≡ Ok (n, rest)
length_given n rest h =
    elim (cases_lt n 128) [
      | inl small ↦ ap (λ (xs : List ℕ). length_of (xs ++ rest)) (octets_short n small) ∙ length_short n rest small ∙ held_is n rest h
      | inr large ↦ given_long n rest large h
    ]

-- where a length was read its octets stand
pub record Measured (bs : List ℕ) (n : ℕ) (rest : List ℕ) : Type 0 where
  pub written : bs ≡ length_octets n ++ rest
  pub within : n ≤ length rest

held_if : (m : ℕ) (bs : List ℕ) (n : ℕ) (rest : List ℕ) (t : Bool) → nat_lt (length bs) m ≡ t
    → if◌then◌else◌ {A = Result (ℕ × List ℕ) Why} t (Err Truncated) (Ok (m, bs)) ≡ Ok (n, rest) → (m ≡ n) × (bs ≡ rest) × (m ≤ length bs)
held_if m bs n rest true h e = absurd cc
held_if m bs n rest false h e = (first_same e, second_same e, above (length bs) m h)

held_found : (m : ℕ) (bs : List ℕ) (n : ℕ) (rest : List ℕ) → held m bs ≡ Ok (n, rest) → (m ≡ n) × (bs ≡ rest) × (m ≤ length bs)
held_found m bs n rest e = held_if m bs n rest _ refl e

found_at : (m : ℕ) (os bs : List ℕ) (n : ℕ) (rest : List ℕ) → length_octets m ≡ os → held m bs ≡ Ok (n, rest) → Measured (os ++ bs) n rest
found_at m os bs n rest octets e =
    let f = held_found m bs n rest e in
    let same : m ≡ n = f.0 in
    record {
      written = ap (λ (xs : List ℕ). xs ++ bs) (sym octets) ∙ ap (λ (x : ℕ). length_octets x ++ bs) same ∙ ap (λ (xs : List ℕ). length_octets n ++ xs) f.1;
      within = omega (arith, f.2, ap (λ (xs : List ℕ). length xs) f.1);
    }

not_zero : (d : ℕ) → (d == 0) ≡ false → 0 < d
not_zero d h = grind (arith, nat_tests)

digits_if : (ds bs : List ℕ) (n : ℕ) (rest : List ℕ) (t u : Bool) → AllBelowBase 256 ds → begins_with_zero ds ≡ t → nat_lt (number_from_digits 256 ds) 128 ≡ u
    → if◌then◌else◌ {A = Result (ℕ × List ℕ) Why} (t || u) (Err LongLength) (held (number_from_digits 256 ds) bs) ≡ Ok (n, rest)
    → Measured ((128 + length ds) ∷ (ds ++ bs)) n rest
digits_if ds bs n rest true u below h g e = absurd cc
digits_if ds bs n rest false true below h g e = absurd cc
digits_if [] bs n rest false false below h g e = absurd cc
digits_if (d ∷ ds) bs n rest false false below h g e =
    let m = number_from_digits 256 (d ∷ ds) in
    let same : digits_of 256 m ≡ d ∷ ds = digits_number 256 d ds (omega arith) (not_zero d h) below.0 below.1 in
    let octets : length_octets m ≡ (128 + length (d ∷ ds)) ∷ d ∷ ds =
    octets_long m (above m 128 g) ∙ ap (λ (xs : List ℕ). (128 + length xs) ∷ xs) same in
    found_at m ((128 + length (d ∷ ds)) ∷ d ∷ ds) bs n rest octets e

digits_found : (ds bs : List ℕ) (n : ℕ) (rest : List ℕ) → AllBelowBase 256 ds → long_length ds bs ≡ Ok (n, rest) → Measured ((128 + length ds) ∷ (ds ++ bs)) n rest
unfolding long_length
digits_found ds bs n rest below e = digits_if ds bs n rest _ _ below refl refl e

many_found : (k : ℕ) (bs : List ℕ) (n : ℕ) (rest : List ℕ) → 0 < k → AllBelowBase 256 bs → length_of ((128 + k) ∷ bs) ≡ Ok (n, rest) → Measured ((128 + k) ∷ bs) n rest
many_found k bs n rest some below e =
    elim (cases_lt (length bs) k) [
      | inl few ↦ absurd (no_value (length_cut k bs some few) e)
      | inr enough ↦
          let found = digits_found (take k bs) (drop k bs) n rest (below_take k bs below) (sym (length_long k bs some enough) ∙ e) in
          let count : length (take k bs) ≡ k = omega (arith, length-take k bs) in
          subst (λ (xs : List ℕ). Measured ((128 + k) ∷ xs) n rest) (take-append-drop k bs)
          (subst (λ (x : ℕ). Measured ((128 + x) ∷ (take k bs ++ drop k bs)) n rest) count found)
    ]

first_found : (k : ℕ) (bs : List ℕ) (n : ℕ) (rest : List ℕ) → AllBelowBase 256 bs → length_of ((128 + k) ∷ bs) ≡ Ok (n, rest) → Measured ((128 + k) ∷ bs) n rest
first_found zero bs n rest below e = absurd (no_value (length_open bs) e)
first_found (suc k) bs n rest below e = many_found (suc k) bs n rest (omega arith) below e

pub length_found : (bs : List ℕ) (n : ℕ) (rest : List ℕ) → AllBelowBase 256 bs → length_of bs ≡ Ok (n, rest) → Measured bs n rest
length_found [] n rest below e = absurd (no_value length_end e)
length_found (b ∷ bs) n rest below e =
    elim (cases_lt b 128) [
      | inl small ↦ found_at b (b ∷ []) bs n rest (octets_short b small) (sym (length_short b bs small) ∙ e)
      | inr large ↦
          let is : 128 + (b - 128) ≡ b = omega arith in
          subst (λ (x : ℕ). Measured (x ∷ bs) n rest) is
          (first_found (b - 128) bs n rest below.1 (subst (λ (x : ℕ). length_of (x ∷ bs) ≡ Ok (n, rest)) (sym is) e))
    ]
