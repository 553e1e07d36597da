-- What a line says, by type: it has no line feed, and spells one value only.
use Rattle.std.specs.Prelude.{◌≡◌, ◌∷◌, ◌==◌, ◌&&◌, ◌<◌, ◌≤◌, ◌/◌, ◌%◌, ◌^◌, Bool, Err, List, MatchResult, None, Ok, Option, Result, Some, [], false, length, nat_le, nat_lt, not, slice_index, suc, true, zero, ℕ}
use Rattle.std.specs.List.{list_all}
use Rattle.std.specs.Cmp.Derive.{both_true}
use Rattle.std.specs.Char.{is_ascii_digit}
use Rattle.std.specs.Fmt.{decimal}
use Rattle.std.specs.Result.{result_ok}
use Rattle.std.specs.Str.{IsUtf8, all_ascii_digits, bytes_eq}
use Rattle.std.specs.Str.Parse.{digits_value}
use Rattle.std.proofs.Common.{ap, arith, refl, subst, sym, ◌∙◌}
use Rattle.std.proofs.lemmas.Bool.{leb-true, lt-ltb, ltb-true}
use Rattle.std.proofs.lemmas.Bool.Decides.{Decides-eqb, nat_tests}
use Rattle.std.proofs.lemmas.Fmt.{IsAscii-decimal, decimal_injective, digits_decimal}
use Rattle.std.proofs.lemmas.Slice.Eq.{bytes_eq-Decides}
use Rattle.std.proofs.lemmas.Str.{IsUtf8-from_ascii}
use Rattle.std.proofs.lemmas.Str.Parse.{IsNumeralModel, numerals_by_value, tells_all_ascii_digits}
use Rattle.hex.specs.Hex.{IsBytes, decode_of, decode_sized, encode_lower, encode_with, lower_digits}
use Rattle.hex.specs.declared.error.FromHexError.{FromHexError}
use Rattle.hex.proofs.HexLemmas.{decode_of-encode_lower, decode_of-same, decode_sized-encode_lower, length-encode_with}
use Rattle.mh_base.specs.Path.{has_good_parts, is_name_byte, is_path}
use Rattle.mh_seal.specs.Lines.{IsValue, is_plain}
use Rattle.mh_seal.specs.Octets.{is_digest}
use Rattle.mh_seal.specs.Reading.{is_bound}
use Rattle.mh_seal.specs.Text.{as_is}
use Rattle.mh_seal.proofs.LineLemmas.{lacks}
use Rattle.mh_seal.proofs.TruthLemmas.{and_left, and_right, some_same}

-- what all pass, all pass that is weaker
weaker : (p q : ℕ → Bool) → ((n : ℕ) → p n ≡ true → q n ≡ true) → (ns : List ℕ) → list_all p ns ≡ true → list_all q ns ≡ true
weaker p q less [] h = refl
weaker p q less (n ∷ ns) h = both_true (less n (and_left (p n) (list_all p ns) h)) (weaker p q less ns (and_right (p n) (list_all p ns) h))

-- Nothing

pub nothing : (bytes : List ℕ) → (length bytes == 0) ≡ true → bytes ≡ []
nothing [] h = refl
nothing (b ∷ bytes) h = let none : suc (length bytes) ≡ 0 = (Decides-eqb (suc (length bytes)) 0).0 h in absurd (omega (arith, none))

-- Names

name_byte : (n : ℕ) → is_name_byte n ≡ true → not (n == 10) ≡ true
name_byte n h =
    let large = leb-true 32 n (and_left (nat_le 32 n) (nat_le n 126) (and_left (nat_le 32 n && nat_le n 126) (not (n == 34)) h)) in
    by (n == 10) refl large
  where
    by : (b : Bool) → (n == 10) ≡ b → 32 ≤ n → not b ≡ true
    by true e large = let ten : n ≡ 10 = (Decides-eqb n 10).0 e in absurd (omega (arith, ten, large))
    by false e large = refl

pub plain_name : (n : List ℕ) → is_path n ≡ true → is_plain n ≡ true
plain_name n h = weaker is_name_byte (λ b. not (b == 10)) name_byte n (and_right (nat_le 1 (length n) && nat_le (length n) 255) (list_all is_name_byte n) (and_left _ (has_good_parts n) h))

-- bytes that are no path spell no name
pub no_path : (value : List ℕ) → is_path value ≡ false → IsValue is_path as_is value None
no_path value none n fit e = no (sym none ∙ ap is_path e ∙ fit)
  where
    no : false ≡ true → ⊥
    no h = absurd cc

-- Numbers

digit_byte : (n : ℕ) → is_ascii_digit n ≡ true → not (n == 10) ≡ true
digit_byte n h = grind (arith, nat_tests)

digits_plain : (ds : List ℕ) → all_ascii_digits ds ≡ true → is_plain ds ≡ true
digits_plain [] h = refl
digits_plain (d ∷ ds) h = both_true (digit_byte d (and_left (is_ascii_digit d) (all_ascii_digits ds) h)) (digits_plain ds (and_right (is_ascii_digit d) (all_ascii_digits ds) h))

own : IsNumeralModel (λ ds. all_ascii_digits ds ≡ true) (digits_value 10)
own = numerals_by_value _ tells_all_ascii_digits

fits_word : (n : ℕ) → is_bound n ≡ true → n < 2 ^ 64
fits_word n h = ltb-true n (2 ^ 64) h

pub plain_bound : (n : ℕ) → is_bound n ≡ true → is_plain (decimal n) ≡ true
plain_bound n h = digits_plain (decimal n) (digits_decimal own n (fits_word n h))

pub one_bound : (m n : ℕ) → is_bound m ≡ true → is_bound n ≡ true → decimal m ≡ decimal n → m ≡ n
one_bound m n h k e = decimal_injective m n (fits_word m h) (fits_word n k) e

-- Digests

-- a test that all of a table pass, and nothing too, what stands in the table passes
at_passes : (p : ℕ → Bool) (t : List ℕ) (i : ℕ) → p 0 ≡ true → list_all p t ≡ true → p (slice_index t i) ≡ true
at_passes p [] i none all = none
at_passes p (x ∷ t) zero none all = and_left (p x) (list_all p t) all
at_passes p (x ∷ t) (suc i) none all = at_passes p t i none (and_right (p x) (list_all p t) all)

-- a byte that is no digit and not 0 does not stand among the digits
pub lacks_digits : (c : ℕ) → not (0 == c) ≡ true → lacks c lower_digits ≡ true → (bytes : List ℕ) → lacks c (encode_lower bytes) ≡ true
unfolding encode_with
lacks_digits c none all [] = refl
lacks_digits c none all (b ∷ bytes) =
    both_true (at_passes (λ n. not (n == c)) lower_digits (b / 16) none all) (both_true (at_passes (λ n. not (n == c)) lower_digits (b % 16) none all) (lacks_digits c none all bytes))

pub plain_digest : (d : List ℕ) → is_digest d ≡ true → is_plain (encode_lower d) ≡ true
plain_digest d h = lacks_digits 10 refl refl d

pub are_bytes : (d : List ℕ) → is_digest d ≡ true → IsBytes d
are_bytes d h i = ltb-true (slice_index d i) 256 (at_passes (λ b. nat_lt b 256) d i refl (and_right (length d == 32) (list_all (λ b. nat_lt b 256) d) h))

pub one_digest : (d e : List ℕ) → is_digest d ≡ true → is_digest e ≡ true → encode_lower d ≡ encode_lower e → d ≡ e
one_digest d e h k same = decode_of-same (encode_lower d) d e (decode_of-encode_lower d (are_bytes d h)) (ap decode_of same ∙ decode_of-encode_lower e (are_bytes e k))

-- What a reader of a value says

-- digits that are no number write none
pub unread_number : (value : List ℕ) (r : Option ℕ) → ((n : ℕ) → n < 2 ^ 64 → value ≡ decimal n → r ≡ Some n) → r ≡ None → IsValue is_bound decimal value None
unread_number value r read none n fit e = no (sym none ∙ read n (fits_word n fit) e)
  where
    no : None ≡ Some n → ⊥
    no h = absurd cc

-- digits that write a number otherwise than it is printed are those of none
pub other_number : (value digits : List ℕ) (r : Option ℕ) (m : ℕ) → ((n : ℕ) → n < 2 ^ 64 → value ≡ decimal n → r ≡ Some n) → r ≡ Some m → digits ≡ decimal m → bytes_eq digits value ≡ false → IsValue is_bound decimal value None
other_number value digits r m read some printed other n fit e =
    let same : m ≡ n = some_same (sym some ∙ read n (fits_word n fit) e) in
    let alike : digits ≡ value = printed ∙ ap decimal same ∙ sym e in
    no (sym other ∙ (bytes_eq-Decides digits value).1 alike)
  where
    no : false ≡ true → ⊥
    no h = absurd cc

pub bound_fits : (n : ℕ) → n < 2 ^ 64 → is_bound n ≡ true
bound_fits n h = lt-ltb n (2 ^ 64) h

-- decimal digits are a text
pub decimal_text : {T E P : Type 0} (n : ℕ) (bytes : List ℕ) (r : Result T E) (Q : T → Type 0) (R : E → Type 0) → n < 2 ^ 64 → bytes ≡ decimal n → MatchResult r Q (λ e. (¬ (IsUtf8 bytes)) × R e) → result_ok r ≡ None → P
decimal_text n bytes (Ok t) Q R fits e m none = absurd cc
decimal_text n bytes (Err w) Q R fits e m none = absurd (m.0 (subst IsUtf8 (sym e) (IsUtf8-from_ascii (decimal n) (IsAscii-decimal n fits))))

pub ok_has : {T E : Type 0} (r : Result T E) (x : T) (Q : T → Type 0) (R : E → Type 0) → MatchResult r Q R → result_ok r ≡ Some x → Q x
ok_has (Ok y) x Q R m e = let same : y ≡ x = cc in subst Q same m
ok_has (Err w) x Q R m e = absurd cc

-- digits that are not decoded are those of no digest

length_is : (d : List ℕ) → is_digest d ≡ true → length d ≡ 32
length_is d h = (Decides-eqb (length d) 32).0 (and_left (length d == 32) (list_all (λ b. nat_lt b 256) d) h)

decoded : (d value : List ℕ) → is_digest d ≡ true → value ≡ encode_lower d → decode_sized value 32 ≡ Ok d
decoded d value h e = ap (λ (t : List ℕ). decode_sized t 32) e ∙ decode_sized-encode_lower d 32 (length_is d h) (are_bytes d h)

pub undecoded : (value : List ℕ) (e : FromHexError) → decode_sized value 32 ≡ Err e → IsValue is_digest encode_lower value None
undecoded value e err d h is = no (sym err ∙ decoded d value h is)
  where
    no : Err e ≡ Ok d → ⊥
    no h = absurd cc

pub other_digits : (value digits bytes : List ℕ) → decode_sized value 32 ≡ Ok bytes → digits ≡ encode_lower bytes → bytes_eq digits value ≡ false → IsValue is_digest encode_lower value None
other_digits value digits bytes ok printed other d h is =
    let same : bytes ≡ d = ok_same (decode_sized value 32) ok (decoded d value h is) in
    let alike : digits ≡ value = printed ∙ ap encode_lower same ∙ sym is in
    no (sym other ∙ (bytes_eq-Decides digits value).1 alike)
  where
    no : false ≡ true → ⊥
    no h = absurd cc

    ok_same : (r : Result (List ℕ) FromHexError) → r ≡ Ok bytes → r ≡ Ok d → bytes ≡ d
    ok_same r a b = cc

-- so many digits
pub digits_long : (d : List ℕ) → is_digest d ≡ true → length (encode_lower d) ≡ 64
digits_long d h = let long = length-encode_with lower_digits d in let one = length_is d h in omega (arith, long, one)

pub digest_of_bytes : (d : List ℕ) → length d ≡ 32 → ((i : ℕ) → slice_index d i < 2 ^ 8) → is_digest d ≡ true
digest_of_bytes d long small = both_true ((Decides-eqb (length d) 32).1 long) (all_below d small)
  where
    all_below : (bs : List ℕ) → ((i : ℕ) → slice_index bs i < 2 ^ 8) → list_all (λ b. nat_lt b 256) bs ≡ true
    all_below [] below = refl
    all_below (b ∷ bs) below = both_true (lt-ltb b 256 (below 0)) (all_below bs (λ i. below (suc i)))
