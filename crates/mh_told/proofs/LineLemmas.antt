-- The bytes of a run, part by part.
use Rattle.std.specs.Prelude.{◌≡◌, ℕ, ◌+◌, ◌*◌, ◌/◌, ◌%◌, ◌<◌, ◌≤◌, Bool, true, false, nat_eq, not, ◌&&◌, List, [], ◌∷◌, ◌++◌, length, take, drop, codes, slice_index, slice_set, if◌then◌else◌, refl}
use Rattle.std.specs.List.{flat_map, list_all, range_with_len}
use Rattle.std.proofs.Common.{ap, ◌∙◌, sym, arith, append_assoc, append-nil}
use Rattle.std.proofs.lemmas.List.Folds.{list_all_at}
use Rattle.std.proofs.lemmas.List.FromFn.{get_or-range_with_len}
use Rattle.mh_told.specs.Hex.{digit_at}
use Rattle.std.proofs.lemmas.Fmt.{decimal_step, decimal_digit}
use Rattle.std.proofs.lemmas.List.{take_more, take_more_set, take-append-drop}
use Rattle.std.proofs.lemmas.List.Concat.{flat_map-append}
use Rattle.std.proofs.lemmas.Bool.Decides.{nat_tests}
use Rattle.std.specs.Char.{digit_char}
use Rattle.std.specs.Fmt.{decimal}
use Rattle.mh_told.specs.Frame.{Run, run_text, is_blank, place, characters, shown_length}
use Rattle.mh_told.specs.Printing.{hex_digit, hex_pair, hex_colour, quoted}

-- the table has the digits of each byte
abbrev is_right : ℕ → Bool
is_right b = nat_eq (digit_at (2 * b)) (hex_digit (b / 16)) && nat_eq (digit_at (2 * b + 1)) (hex_digit b)

all_right : list_all is_right (range_with_len 0 256) ≡ true
unfolding digit_at
all_right = refl

one_right : (b : ℕ) → b < 256 → is_right b ≡ true
one_right b small = by (is_right b) refl
  where
    by : (t : Bool) → is_right b ≡ t → t ≡ true
    by true e = refl
    by false e =
        let plain : 0 + b ≡ b = omega arith in
        let there = get_or-range_with_len 0 256 b 0 small ∙ plain in
        sym (list_all_at is_right (range_with_len 0 256) b 0 small (ap is_right there ∙ e)) ∙ all_right

left_of : (a b : Bool) → (a && b) ≡ true → a ≡ true
left_of true b e = refl
left_of false b e = e

right_of : (a b : Bool) → (a && b) ≡ true → b ≡ true
right_of true b e = e
right_of false b e = absurd cc

same_number : (a b : ℕ) → nat_eq a b ≡ true → a ≡ b
same_number a b e = grind (arith, nat_tests, e)

high_digit : (b : ℕ) → b < 256 → digit_at (2 * b) ≡ hex_digit (b / 16)
high_digit b small = same_number (digit_at (2 * b)) (hex_digit (b / 16)) (left_of (nat_eq (digit_at (2 * b)) (hex_digit (b / 16))) (nat_eq (digit_at (2 * b + 1)) (hex_digit b)) (one_right b small))

low_digit : (b : ℕ) → b < 256 → digit_at (2 * b + 1) ≡ hex_digit b
low_digit b small = same_number (digit_at (2 * b + 1)) (hex_digit b) (right_of (nat_eq (digit_at (2 * b)) (hex_digit (b / 16))) (nat_eq (digit_at (2 * b + 1)) (hex_digit b)) (one_right b small))

-- two bytes, one behind the other
two_behind : (front mid new : List ℕ) (a b : ℕ) → mid ≡ front ++ a ∷ [] → new ≡ mid ++ b ∷ [] → new ≡ front ++ a ∷ b ∷ []
two_behind front mid new a b first second = second ∙ ap (λ (xs : List ℕ). xs ++ b ∷ []) first ∙ append_assoc front (a ∷ []) (b ∷ [])

pub pair_put : (front mid new : List ℕ) (n a b : ℕ) → n < 256 → a ≡ digit_at (2 * n) → b ≡ digit_at (2 * n + 1) → mid ≡ front ++ a ∷ [] → new ≡ mid ++ b ∷ [] → new ≡ front ++ hex_pair n
pair_put front mid new n a b small high low first second =
    let one = high ∙ high_digit n small in
    let other = low ∙ low_digit n small in
    two_behind front mid new a b first second ∙ (λ i. front ++ one i ∷ other i ∷ [])

pub one_column : (front new : List ℕ) (n : ℕ) → n < 10 → new ≡ front ++ (48 + n) ∷ [] → new ≡ front ++ decimal n
one_column front new n small put = put ∙ ap (λ (xs : List ℕ). front ++ xs) (sym (decimal_digit n small))

pub two_columns : (front mid new : List ℕ) (n : ℕ) → 10 ≤ n → n < 60 → mid ≡ front ++ (48 + n / 10) ∷ [] → new ≡ mid ++ (48 + n % 10) ∷ [] → new ≡ front ++ decimal n
two_columns front mid new n large small first second =
    let digits : decimal n ≡ (48 + n / 10) ∷ (48 + n % 10) ∷ [] = decimal_step n large (omega (arith, small)) ∙ ap (λ (xs : List ℕ). xs ++ (48 + n % 10) ∷ []) (decimal_digit (n / 10) (omega (arith, small))) in
    two_behind front mid new (48 + n / 10) (48 + n % 10) first second ∙ ap (λ (xs : List ℕ). front ++ xs) (sym digits)

pub mark_put : (front mid new : List ℕ) → mid ≡ front ++ 32 ∷ [] → new ≡ mid ++ 34 ∷ [] → new ≡ front ++ codes " \""
mark_put front mid new first second = two_behind front mid new 32 34 first second

three_pairs : (c : ℕ) → hex_pair (c / 65536 % 256) ++ (hex_pair (c / 256 % 256) ++ hex_pair (c % 256)) ≡ hex_colour c
three_pairs c =
    let a : c / 65536 % 256 / 16 % 16 ≡ c / 1048576 % 16 = omega arith in
    let b : c / 65536 % 256 % 16 ≡ c / 65536 % 16 = omega arith in
    let d : c / 256 % 256 / 16 % 16 ≡ c / 4096 % 16 = omega arith in
    let e : c / 256 % 256 % 16 ≡ c / 256 % 16 = omega arith in
    let f : c % 256 / 16 % 16 ≡ c / 16 % 16 = omega arith in
    let g : c % 256 % 16 ≡ c % 16 = omega arith in
    λ i. digit_char (a i) ∷ digit_char (b i) ∷ digit_char (d i) ∷ digit_char (e i) ∷ digit_char (f i) ∷ digit_char (g i) ∷ []

pub colour_put : (front one two new : List ℕ) (c : ℕ) → one ≡ front ++ hex_pair (c / 65536 % 256) → two ≡ one ++ hex_pair (c / 256 % 256) → new ≡ two ++ hex_pair (c % 256) → new ≡ front ++ hex_colour c
colour_put front one two new c first second third =
    third ∙ ap (λ (xs : List ℕ). xs ++ hex_pair (c % 256)) (second ∙ ap (λ (xs : List ℕ). xs ++ hex_pair (c / 256 % 256)) first)
    ∙ append_assoc (front ++ hex_pair (c / 65536 % 256)) (hex_pair (c / 256 % 256)) (hex_pair (c % 256))
    ∙ append_assoc front (hex_pair (c / 65536 % 256)) (hex_pair (c / 256 % 256) ++ hex_pair (c % 256))
    ∙ ap (λ (xs : List ℕ). front ++ xs) (three_pairs c)

-- one more character
pub plain_more : (line front scalars : List ℕ) (at count byte : ℕ) → at + count < length line → count < length scalars → quoted (slice_index scalars count) ≡ byte ∷ []
    → take (at + count) line ≡ front ++ flat_map quoted (take count scalars) → take (at + (count + 1)) (slice_set line (at + count) byte) ≡ front ++ flat_map quoted (take (count + 1) scalars)
plain_more line front scalars at count byte room inside plain so_far =
    let behind : at + (count + 1) ≡ at + count + 1 = omega arith in
    let last : flat_map quoted (slice_index scalars count ∷ []) ≡ byte ∷ [] = ap (λ (xs : List ℕ). xs ++ []) plain in
    let more : flat_map quoted (take (count + 1) scalars) ≡ flat_map quoted (take count scalars) ++ byte ∷ [] =
    ap (flat_map quoted) (take_more scalars count 0 inside) ∙ flat_map-append quoted (take count scalars) (slice_index scalars count ∷ []) ∙ ap (λ (xs : List ℕ). flat_map quoted (take count scalars) ++ xs) last in
    ap (λ (n : ℕ). take n (slice_set line (at + count) byte)) behind ∙ take_more_set line (at + count) byte room
    ∙ ap (λ (xs : List ℕ). xs ++ byte ∷ []) so_far ∙ append_assoc front (flat_map quoted (take count scalars)) (byte ∷ []) ∙ ap (λ (xs : List ℕ). front ++ xs) (sym more)

-- a run is its place, and its characters in two parts
pub run_put : (r : Run) (shown count : ℕ) (begun line old new : List ℕ) → is_blank r ≡ false → shown ≡ shown_length r.scalars → begun ≡ place r ++ codes " \""
    → line ≡ begun ++ flat_map quoted (take count (take shown r.scalars)) → new ≡ old ++ (line ++ flat_map quoted (drop count (take shown r.scalars)) ++ codes "\"") → new ≡ old ++ run_text r
unfolding run_text
run_put r shown count begun line old new some is first second third =
    third ∙ ap (λ (xs : List ℕ). old ++ xs) (parts ∙ sym (ap (λ (b : Bool). if b then [] else place r ++ characters r.scalars) some))
  where
    front : List ℕ
    front = flat_map quoted (take count (take shown r.scalars))

    rest : List ℕ
    rest = flat_map quoted (drop count (take shown r.scalars))

    all : List ℕ
    all = flat_map quoted (take (shown_length r.scalars) r.scalars)

    joined : front ++ rest ≡ all
    joined =
        sym (flat_map-append quoted (take count (take shown r.scalars)) (drop count (take shown r.scalars)))
        ∙ ap (flat_map quoted) (take-append-drop count (take shown r.scalars)) ∙ ap (λ (n : ℕ). flat_map quoted (take n r.scalars)) is

    parts : line ++ rest ++ codes "\"" ≡ place r ++ characters r.scalars
    parts =
        ap (λ (xs : List ℕ). xs ++ rest ++ codes "\"") (second ∙ ap (λ (xs : List ℕ). xs ++ front) first)
        ∙ ap (λ (xs : List ℕ). xs ++ codes "\"") (append_assoc (place r ++ codes " \"") front rest ∙ ap (λ (xs : List ℕ). (place r ++ codes " \"") ++ xs) joined ∙ append_assoc (place r) (codes " \"") all)
        ∙ append_assoc (place r) (codes " \"" ++ all) (codes "\"")

-- one that is not printed
pub blank_put : (r : Run) (old : List ℕ) → is_blank r ≡ true → old ≡ old ++ run_text r
unfolding run_text
blank_put r old blank = sym (append-nil old) ∙ ap (λ (xs : List ℕ). old ++ xs) (sym (ap (λ (b : Bool). if b then [] else place r ++ characters r.scalars) blank))
