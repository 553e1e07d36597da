-- What std reads as a number is what the definitions read, where no plus stands first.
use Rattle.std.proofs.Common.{◌≡◌, refl, sym, subst, ◌∙◌, arith, rules, ℕ, zero, suc, ◌<◌, ◌≤◌, Bool, true, false, ◌==◌, if◌then◌else◌, List, [], ◌∷◌, length, get_or, ℤ, pos, Some, None}
use Rattle.std.specs.Prelude.{neg_ℤ, Result, Ok, Err}
use Rattle.std.specs.List.{list_all}
use Rattle.std.specs.Option.{option_map_or}
use Rattle.std.specs.Result.{OkIff, result_unwrap_or}
use Rattle.std.specs.Int.{w32}
use Rattle.std.specs.Str.{IsUtf8, IsAscii}
use Rattle.std.specs.Str.Parse.{digits_value, ParsesSigned}
use Rattle.std.proofs.lemmas.Bool.{eqb-true, eqb-false}
use Rattle.std.proofs.lemmas.Bool.Decides.{nat_tests}
use Rattle.std.proofs.lemmas.Str.Parse.{IsNumeralModel, numerals_by_value, parse_signed_minus, parse_signed_plain}
use Rattle.std.proofs.lemmas.Str.{IsUtf8-from_ascii}
use Rattle.std.proofs.lemmas.Fmt.{IsAscii-from_digits}
use Rattle.mh_model.specs.Variables.{is_digit, numeral, ranged, number_in}

abbrev AreDigits : List ℕ → Type 0
AreDigits ds = list_all is_digit ds ≡ true

own : IsNumeralModel AreDigits (digits_value 10)
own = numerals_by_value _ (search rules)

-- what a numeral is, and what is none

numeral_of : (ds : List ℕ) → AreDigits ds → 0 < length ds → numeral ds ≡ Some (digits_value 10 ds)
numeral_of [] digits some = absurd (omega arith)
numeral_of (c ∷ cs) digits some = rw digits refl

no_numeral : (ds : List ℕ) → ¬ (AreDigits ds) → numeral ds ≡ None
no_numeral [] other = refl
no_numeral (c ∷ cs) other = by (list_all is_digit (c ∷ cs)) other
  where
    by : (t : Bool) → ¬ (t ≡ true) → (if t then Some (digits_value 10 (c ∷ cs)) else None) ≡ None
    by true not_so = absurd (not_so refl)
    by false not_so = refl

-- the range

minus_within : (n : ℕ) → n ≤ 2147483648 → ranged (neg_ℤ (pos n)) ≡ neg_ℤ (pos n)
minus_within zero h = refl
minus_within (suc n) h = grind (arith, nat_tests)

minus_past : (n : ℕ) → 2147483648 < n → ranged (neg_ℤ (pos n)) ≡ pos 0
minus_past zero h = refl
minus_past (suc n) h = grind (arith, nat_tests)

plain_within : (n : ℕ) → n < 2147483648 → ranged (pos n) ≡ pos n
plain_within n h = grind (arith, nat_tests)

plain_past : (n : ℕ) → 2147483648 ≤ n → ranged (pos n) ≡ pos 0
plain_past n h = grind (arith, nat_tests)

not_at_most : (a b : ℕ) → ¬ (a ≤ b) → b < a
not_at_most a b other = omega (arith, other)

not_below : (a b : ℕ) → ¬ (a < b) → b ≤ a
not_below a b other = omega (arith, other)

-- what is read of digits, with a minus and without

module _ {E : Type 0} where
  minus : (ds : List ℕ) (r : Result ℤ E) → OkIff r (AreDigits ds × (0 < length ds) × (digits_value 10 ds ≤ 2147483648)) (neg_ℤ (pos (digits_value 10 ds))) → result_unwrap_or r (pos 0) ≡ ranged (option_map_or (λ n. neg_ℤ (pos n)) (numeral ds) (pos 0))
  minus ds (Ok x) h = rw (numeral_of ds h.0.0 h.0.1) (h.1 ∙ sym (minus_within (digits_value 10 ds) h.0.2))
  minus [] (Err e) h = refl
  minus (c ∷ cs) (Err e) h =
      by (list_all is_digit (c ∷ cs)) (λ digits. not_at_most _ _ (λ small. h (digits, omega arith, small)))
    where
      by : (t : Bool) → (t ≡ true → 2147483648 < digits_value 10 (c ∷ cs)) → pos 0 ≡ ranged (option_map_or (λ n. neg_ℤ (pos n)) (if t then Some (digits_value 10 (c ∷ cs)) else None) (pos 0))
      by true past = sym (minus_past (digits_value 10 (c ∷ cs)) (past refl))
      by false past = refl

  plain : (ds : List ℕ) (r : Result ℤ E) → OkIff r (AreDigits ds × (0 < length ds) × (digits_value 10 ds < 2147483648)) (pos (digits_value 10 ds)) → result_unwrap_or r (pos 0) ≡ ranged (option_map_or (λ n. pos n) (numeral ds) (pos 0))
  plain ds (Ok x) h = rw (numeral_of ds h.0.0 h.0.1) (h.1 ∙ sym (plain_within (digits_value 10 ds) h.0.2))
  plain [] (Err e) h = refl
  plain (c ∷ cs) (Err e) h =
      by (list_all is_digit (c ∷ cs)) (λ digits. not_below _ _ (λ small. h (digits, omega arith, small)))
    where
      by : (t : Bool) → (t ≡ true → 2147483648 ≤ digits_value 10 (c ∷ cs)) → pos 0 ≡ ranged (option_map_or (λ n. pos n) (if t then Some (digits_value 10 (c ∷ cs)) else None) (pos 0))
      by true past = sym (plain_past (digits_value 10 (c ∷ cs)) (past refl))
      by false past = refl

  pub parsed : (bs : List ℕ) (r : Result ℤ E) → (get_or bs 0 0 == 43) ≡ false → ParsesSigned w32 10 bs r → result_unwrap_or r (pos 0) ≡ number_in bs
  parsed [] (Ok x) other h = absurd (omega (arith, h.0.0.0))
  parsed [] (Err e) other h = refl
  parsed (c ∷ cs) r other h = by (c == 45) refl
    where
      by : (t : Bool) → (c == 45) ≡ t → result_unwrap_or r (pos 0) ≡ ranged (if t then option_map_or (λ n. neg_ℤ (pos n)) (numeral cs) (pos 0) else option_map_or (λ n. pos n) (numeral (c ∷ cs)) (pos 0))
      by true is = minus cs r (parse_signed_minus own w32 (c ∷ cs) r h (eqb-true c 45 is))
      by false is = plain (c ∷ cs) r (parse_signed_plain own w32 (c ∷ cs) r h (eqb-false c 43 other) (eqb-false c 45 is))

-- octets that are no text are no number

text_of : (ds : List ℕ) → AreDigits ds → IsUtf8 ds
text_of ds digits = IsUtf8-from_ascii ds (IsAscii-from_digits ds (own.to ds digits))

signed_text_of : (ds : List ℕ) → AreDigits ds → IsUtf8 (45 ∷ ds)
signed_text_of ds digits = IsUtf8-from_ascii (45 ∷ ds) each
  where
    each : IsAscii (45 ∷ ds)
    each zero = omega arith
    each (suc i) = IsAscii-from_digits ds (own.to ds digits) i

pub not_a_text : (bs : List ℕ) → ¬ (IsUtf8 bs) → pos 0 ≡ number_in bs
not_a_text [] other = refl
not_a_text (c ∷ cs) other = by (c == 45) refl
  where
    by : (t : Bool) → (c == 45) ≡ t → pos 0 ≡ ranged (if t then option_map_or (λ n. neg_ℤ (pos n)) (numeral cs) (pos 0) else option_map_or (λ n. pos n) (numeral (c ∷ cs)) (pos 0))
    by true is = rw (no_numeral cs (λ digits. other (subst (λ d. IsUtf8 (d ∷ cs)) (sym (eqb-true c 45 is)) (signed_text_of cs digits)))) refl
    by false is = rw (no_numeral (c ∷ cs) (λ digits. other (text_of (c ∷ cs) digits))) refl
