-- The digits at the front of bytes that begin with a number.
use Rattle.std.specs.Prelude.{◌≡◌, ℕ, ◌+◌, ◌-◌, ◌*◌, ◌/◌, ◌%◌, ◌<◌, ◌^◌, true, List, [], ◌∷◌, ◌++◌, length, take, refl, Option, Some, None, Result, Ok, Err, MatchResult}
use Rattle.std.specs.Result.{result_ok}
use Rattle.std.specs.Char.{is_ascii_digit, digit_char, digit_value}
use Rattle.std.specs.Fmt.{decimal}
use Rattle.std.specs.List.{prefix_len}
use Rattle.std.specs.Str.{IsUtf8, all_ascii_digits}
use Rattle.std.proofs.Common.{ap, ◌∙◌, sym, subst, arith}
use Rattle.std.proofs.lemmas.Bool.{and_parts, cond-true, cond-false, false_from_ne_true}
use Rattle.std.proofs.lemmas.Bool.Decides.{nat_tests}
use Rattle.std.proofs.Math.Seq.{take-append_seam}
use Rattle.std.proofs.lemmas.Fmt.{digits_decimal, IsAscii-decimal}
use Rattle.std.proofs.lemmas.Str.{IsUtf8-from_ascii, digit_value-digit_char}
use Rattle.std.proofs.lemmas.Str.Parse.{IsNumeralModel, numerals_by_value, tells_all_ascii_digits}
use Rattle.std.specs.Str.Parse.{digits_value}
use Rattle.mh_look.specs.Reading.{EndsNumber}

-- all of these digits are counted, with what is counted behind them
count_all : (ds rest : List ℕ) → all_ascii_digits ds ≡ true → prefix_len is_ascii_digit (ds ++ rest) ≡ length ds + prefix_len is_ascii_digit rest
count_all [] rest h = omega arith
count_all (d ∷ ds) rest h =
    let parts = and_parts (is_ascii_digit d) (all_ascii_digits ds) h in
    let more = count_all ds rest parts.1 in
    cond-true (is_ascii_digit d) _ _ parts.0 ∙ omega (arith, more)

no_digit : (b : ℕ) (back : List ℕ) → EndsNumber (b ∷ back) → is_ascii_digit b ≡ true → ⊥
no_digit b back ends h = ends (b - 48) back (grind (arith, nat_tests)) (ap (λ (x : ℕ). x ∷ back) (grind (arith, nat_tests)))

count_none : (rest : List ℕ) → EndsNumber rest → prefix_len is_ascii_digit rest ≡ 0
count_none [] ends = refl
count_none (b ∷ back) ends = cond-false (is_ascii_digit b) _ _ (false_from_ne_true (is_ascii_digit b) (no_digit b back ends))

own : IsNumeralModel (λ ds. all_ascii_digits ds ≡ true) (digits_value 10)
own = numerals_by_value _ tells_all_ascii_digits

-- the digits that are counted are those of the number
pub count_decimal : (n : ℕ) (bytes rest : List ℕ) → n < 2 ^ 64 → EndsNumber rest → bytes ≡ decimal n ++ rest → prefix_len is_ascii_digit bytes ≡ length (decimal n)
count_decimal n bytes rest fits ends e =
    let all = count_all (decimal n) rest (digits_decimal own n fits) in
    let none = count_none rest ends in
    ap (prefix_len is_ascii_digit) e ∙ all ∙ omega (arith, none)

pub take_decimal : (n : ℕ) (bytes rest : List ℕ) (count : ℕ) → bytes ≡ decimal n ++ rest → count ≡ length (decimal n) → take count bytes ≡ decimal n
take_decimal n bytes rest count e same =
    ap (λ (k : ℕ). take k bytes) same ∙ ap (take (length (decimal n))) e ∙ take-append_seam (decimal n) rest

abbrev pub found : ℕ → ℕ → Option (ℕ × ℕ)
found n count = Some (n, count)

-- a number that was read twice was read as one
pub same_number : (o : Option ℕ) (x n count long : ℕ) → o ≡ Some x → o ≡ Some n → count ≡ long → found x count ≡ found n long
same_number o x n count long read is same = cc

pub some_number : {P : Type 0} (o : Option ℕ) (n : ℕ) → o ≡ None → o ≡ Some n → P
some_number o n none some = absurd cc

-- decimal digits are a text
pub decimal_text : {T E P : Type 0} (n : ℕ) (bytes : List ℕ) (r : Result T E) (Q : T → Type 0) (R : E → Type 0) → n < 2 ^ 64 → bytes ≡ decimal n → MatchResult r Q (λ e. (¬ (IsUtf8 bytes)) × R e) → result_ok r ≡ None → P
decimal_text n bytes (Ok t) Q R fits e m none = absurd cc
decimal_text n bytes (Err w) Q R fits e m none = absurd (m.0 (subst IsUtf8 (sym e) (IsUtf8-from_ascii (decimal n) (IsAscii-decimal n fits))))

pub ok_has : {T E : Type 0} (r : Result T E) (x : T) (Q : T → Type 0) (R : E → Type 0) → MatchResult r Q R → result_ok r ≡ Some x → Q x
ok_has (Ok y) x Q R m e = let same : y ≡ x = cc in subst Q same m
ok_has (Err w) x Q R m e = absurd cc

pub found_pair : (x n count long : ℕ) → x ≡ n → count ≡ long → found x count ≡ found n long
found_pair x n count long same counted = cc

-- what a hexadecimal digit was read as
pub digit_is : (digit code byte d : ℕ) → digit ≡ digit_value code → code ≡ byte → byte ≡ digit_char d → d < 16 → digit ≡ d
digit_is digit code byte d read same is small = read ∙ ap digit_value (same ∙ is) ∙ digit_value-digit_char d (omega arith)

pub octet_is : (high low h l : ℕ) → high ≡ h → low ≡ l → Some (high * 16 + low) ≡ Some (h * 16 + l)
octet_is high low h l first second = cc

value_is : (x y : ℕ) → Some x ≡ Some y → x ≡ y
value_is x y e = cc

pub colour_is : (c red green blue : ℕ) → c < 16777216
    → Some red ≡ Some (c / 1048576 % 16 * 16 + c / 65536 % 16)
    → Some green ≡ Some (c / 4096 % 16 * 16 + c / 256 % 16)
    → Some blue ≡ Some (c / 16 % 16 * 16 + c % 16)
    → Some (red * 65536 + green * 256 + blue) ≡ Some c
colour_is c red green blue small r g b =
    let is_red = value_is red _ r in
    let is_green = value_is green _ g in
    let is_blue = value_is blue _ b in
    ap (λ (n : ℕ). Some n) (omega arith)
