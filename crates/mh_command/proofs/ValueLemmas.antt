-- What was found for an argument, and the number that a text writes.
use Rattle.std.specs.Prelude.{◌≡◌, ℕ, ◌≤◌, Bool, true, false, if◌then◌else◌, Option, Some, None, Result, Ok, Err, option_map, refl}
use Rattle.std.specs.Str.Parse.{ParsesUnsigned, digits_value, without_leading_plus}
use Rattle.std.proofs.Common.{ap, arith, sym, subst, ◌∙◌}
use Rattle.std.specs.Borrow.{Bor}
use Rattle.clap.specs.Words.{Text, first_of, first_value, rows_of}
use Rattle.clap.specs.Values.{IsUnsignedIn}
use Rattle.clap.specs.ValueTests.{is_unsigned_in}
use Rattle.clap.specs.declared.builder.value_parser.ValueParser.TheVariants as parser
use Rattle.clap.specs.declared.parser.matches.Found.{Found}
use Rattle.clap.proofs.WalkLemmas.{first_value-rows}
use Rattle.clap.proofs.ValueTestLemmas.{accepts-Accepts, Accepts-accepts}
use Rattle.mh_command.specs.Values.{number_in}

-- the first value of an argument, as the getter lends it
pub lent : (f : Found) (id : Text) (answer : Option (Bor Text)) → option_map (λ s. s.now) answer ≡ first_value f id → first_of id (rows_of f) ≡ option_map (λ s. s.now) answer
lent f id answer told = sym (first_value-rows f id) ∙ sym told

-- where there is one, and where there is none
pub value_found : (f : Found) (id : Text) (answer : Option (Bor Text)) (value : Bor Text) → option_map (λ s. s.now) answer ≡ first_value f id → answer ≡ Some value → first_of id (rows_of f) ≡ Some value.now
value_found f id answer value told is = lent f id answer told ∙ ap (option_map (λ (s : Bor Text). s.now)) is

pub none_found : (f : Found) (id : Text) (answer : Option (Bor Text)) → option_map (λ s. s.now) answer ≡ first_value f id → answer ≡ None → first_of id (rows_of f) ≡ None
none_found f id answer told is = lent f id answer told ∙ ap (option_map (λ (s : Bor Text). s.now)) is

-- a number that is let through
is_within : (most : ℕ) (text : Text) → IsUnsignedIn 0 most text → is_unsigned_in 0 most text ≡ true
is_within most text within = Accepts-accepts false (parser.Unsigned 0 most) text within

-- a text that is not
is_outside : (most : ℕ) (text : Text) → (IsUnsignedIn 0 most text → ⊥) → is_unsigned_in 0 most text ≡ false
is_outside most text outside = by (is_unsigned_in 0 most text) refl
  where
    by : (b : Bool) → is_unsigned_in 0 most text ≡ b → b ≡ false
    by false e = refl
    by true e = absurd (outside (accepts-Accepts false (parser.Unsigned 0 most) text e))

-- the number that a text writes

pub number_read : {E : Type 0} (most other : ℕ) (text : Text) (r : Result ℕ E) (number : ℕ) → ParsesUnsigned 64 10 text r → r ≡ Ok number → number ≤ most → number ≡ number_in most other text
number_read {E} most other text (Ok d) number read is last =
    let n : ℕ = digits_value 10 (without_leading_plus text) in
    let same : d ≡ number = cc in
    let value : number ≡ n = sym same ∙ read.1 in
    let first : n ≤ most = subst (λ (m : ℕ). m ≤ most) value last in
    value ∙ sym (ap (λ (b : Bool). if b then n else other) (is_within most text (read.0.0, read.0.1, omega (arith, n), first)))
number_read {E} most other text (Err e) number read is last = absurd cc

pub number_past : {E : Type 0} (most other : ℕ) (text : Text) (r : Result ℕ E) (number : ℕ) → ParsesUnsigned 64 10 text r → r ≡ Ok number → (number ≤ most → ⊥) → other ≡ number_in most other text
number_past {E} most other text (Ok d) number read is past =
    let n : ℕ = digits_value 10 (without_leading_plus text) in
    let same : d ≡ number = cc in
    let value : number ≡ n = sym same ∙ read.1 in
    sym (ap (λ (b : Bool). if b then n else other) (is_outside most text (λ within. past (subst (λ (m : ℕ). m ≤ most) (sym value) within.3))))
number_past {E} most other text (Err e) number read is past = absurd cc

pub number_unread : {E : Type 0} (most other : ℕ) (text : Text) (r : Result ℕ E) (why : E) → ParsesUnsigned 64 10 text r → r ≡ Err why → other ≡ number_in most other text
number_unread {E} most other text (Ok d) why read is = absurd cc
number_unread {E} most other text (Err e) why read is =
    let n : ℕ = digits_value 10 (without_leading_plus text) in
    sym (ap (λ (b : Bool). if b then n else other) (is_outside most text (λ within. read (within.0, within.1))))
