-- The octets that name a tag: what is read from them, and what stands where a tag was read.
use Rattle.std.proofs.Common.{◌≡◌, ℕ, zero, suc, ◌+◌, ◌-◌, ◌*◌, ◌/◌, ◌%◌, ◌<◌, ◌≤◌, ◌≢◌, ◌^◌, ◌⊎◌, inl, inr, Bool, true, false, ◌||◌, ◌==◌, nat_lt, if◌then◌else◌, List, [], ◌∷◌, ◌++◌, length, Result, Ok, Err, refl, sym, ◌∙◌, ap, subst, arith}
use Rattle.std.proofs.lemmas.Bool.{cases_lt}
use Rattle.std.proofs.lemmas.Bool.Decides.{nat_tests}
use Rattle.std.proofs.lemmas.Nat.{div-mul-add, mod-mul-add}
use Rattle.std.specs.Int.Digits.{AllBelowBase}
use Rattle.mh_base.specs.Reading.{◌>>=◌}
use Rattle.mh_der.specs.declared.tag.Tag.{Tag}
use Rattle.mh_der.specs.declared.tag.TagClass.{TagClass}
use Rattle.mh_der.specs.declared.tag.TagClass.TheVariants as class
use Rattle.mh_der.specs.declared.der_error.Why.{Why}
use Rattle.mh_der.specs.declared.der_error.Why.TheVariants.{Truncated, BadTag}
use Rattle.mh_der.specs.Element.{class_bits, form_bit, identifier}
use Rattle.mh_der.specs.Reading.{class_of, is_constructed, digit, long_enough, long_number, tag_of}
use Rattle.mh_der.proofs.DigitLemmas.{marked, marked_push}

-- the first octet of a tag, but for its last five bits
abbrev pub front : TagClass → Bool → ℕ
front c f = class_bits c + form_bit f

-- that octet in steps of 32, of which the last bit tells the form
front_steps : (c : TagClass) (f : Bool) → (q : ℕ) × (front c f ≡ q * 32) × ((q % 2 == 1) ≡ f)
front_steps class.Universal false = (0, refl, refl)
front_steps class.Universal true = (1, refl, refl)
front_steps class.Application false = (2, refl, refl)
front_steps class.Application true = (3, refl, refl)
front_steps class.Context false = (4, refl, refl)
front_steps class.Context true = (5, refl, refl)
front_steps class.Private false = (6, refl, refl)
front_steps class.Private true = (7, refl, refl)

form_front : (c : TagClass) (f : Bool) (n : ℕ) → n < 32 → is_constructed (front c f + n) ≡ f
form_front c f n h =
    let s = front_steps c f in
    let whole : (front c f + n) / 32 ≡ s.0 = ap (λ (x : ℕ). (x + n) / 32) s.1 ∙ div-mul-add s.0 32 n h in
    ap (λ (x : ℕ). x % 2 == 1) whole ∙ s.2

low_front : (c : TagClass) (f : Bool) (n : ℕ) → n < 32 → (front c f + n) % 32 ≡ n
low_front c f n h =
    let s = front_steps c f in
    ap (λ (x : ℕ). (x + n) % 32) s.1 ∙ mod-mul-add s.0 32 n h

universal_below : (b : ℕ) → b < 64 → class_of b ≡ class.Universal
universal_below b h = grind (arith, nat_tests)

application_within : (b : ℕ) → 64 ≤ b → b < 128 → class_of b ≡ class.Application
application_within b h g = grind (arith, nat_tests)

context_within : (b : ℕ) → 128 ≤ b → b < 192 → class_of b ≡ class.Context
context_within b h g = grind (arith, nat_tests)

private_above : (b : ℕ) → 192 ≤ b → class_of b ≡ class.Private
private_above b h = grind (arith, nat_tests)

form_small : (f : Bool) → form_bit f ≤ 32
form_small false = omega arith
form_small true = omega arith

class_front : (c : TagClass) (f : Bool) (n : ℕ) → n < 32 → class_of (front c f + n) ≡ c
class_front class.Universal f n h = universal_below (front class.Universal f + n) (omega (arith, form_small f))
class_front class.Application f n h = application_within (front class.Application f + n) (omega arith) (omega (arith, form_small f))
class_front class.Context f n h = context_within (front class.Context f + n) (omega arith) (omega (arith, form_small f))
class_front class.Private f n h = private_above (front class.Private f + n) (omega arith)

less : (b n : ℕ) → nat_lt b n ≡ true → b < n
less b n h = grind (arith, nat_tests)

above : (b n : ℕ) → nat_lt b n ≡ false → n ≤ b
above b n h = grind (arith, nat_tests)

-- the first octet is what it tells
class_none : (b : ℕ) → b < 64 → 0 ≡ b / 64 * 64
class_none b h = omega arith

class_one : (b : ℕ) → 64 ≤ b → b < 128 → 64 ≡ b / 64 * 64
class_one b h g = omega arith

class_two : (b : ℕ) → 128 ≤ b → b < 192 → 128 ≡ b / 64 * 64
class_two b h g = omega arith

class_three : (b : ℕ) → 192 ≤ b → b < 256 → 192 ≡ b / 64 * 64
class_three b h g = omega arith

form_one : (q : ℕ) → (q % 2 == 1) ≡ true → 32 ≡ q % 2 * 32
form_one q h = grind (arith, nat_tests)

not_one : (n : ℕ) → (n == 1) ≡ false → n ≢ 1
not_one n h = grind (arith, nat_tests)

form_none : (q : ℕ) → (q % 2 == 1) ≡ false → 0 ≡ q % 2 * 32
form_none q h = omega (arith, not_one (q % 2) h)

class_bits_if : (b : ℕ) (t u v : Bool) → b < 256 → nat_lt b 64 ≡ t → nat_lt b 128 ≡ u → nat_lt b 192 ≡ v
    → class_bits (if t then class.Universal else (if u then class.Application else (if v then class.Context else class.Private))) ≡ b / 64 * 64
class_bits_if b true u v h p q r = class_none b (less b 64 p)
class_bits_if b false true v h p q r = class_one b (above b 64 p) (less b 128 q)
class_bits_if b false false true h p q r = class_two b (above b 128 q) (less b 192 r)
class_bits_if b false false false h p q r = class_three b (above b 192 r) h

class_bits_is : (b : ℕ) → b < 256 → class_bits (class_of b) ≡ b / 64 * 64
class_bits_is b h = class_bits_if b _ _ _ h refl refl refl

form_bit_if : (q : ℕ) (t : Bool) → (q % 2 == 1) ≡ t → form_bit t ≡ q % 2 * 32
form_bit_if q true h = form_one q h
form_bit_if q false h = form_none q h

front_is : (b : ℕ) → b < 256 → front (class_of b) (is_constructed b) + b % 32 ≡ b
front_is b h = omega (arith, class_bits_is b h, form_bit_if (b / 32) (is_constructed b) refl)

-- digits
digit_last : (n c : ℕ) (rest : List ℕ) → c < 128 → digit n (c ∷ rest) ≡ Ok (n * 128 + c, true, rest)
unfolding digit
digit_last n c rest h =
    let low : c % 128 ≡ c = omega arith in
    let last : nat_lt c 128 ≡ true = grind (arith, nat_tests) in
    rw (low, last) refl

digit_more : (n d : ℕ) (rest : List ℕ) → d < 128 → digit n ((128 + d) ∷ rest) ≡ Ok (n * 128 + d, false, rest)
unfolding digit
digit_more n d rest h =
    let low : (128 + d) % 128 ≡ d = omega arith in
    let further : nat_lt (128 + d) 128 ≡ false = grind (arith, nat_tests) in
    rw (low, further) refl

long_one : (c : ℕ) (rest : List ℕ) → c < 128 → long_number (c ∷ rest) ≡ long_enough (0 * 128 + c) rest
unfolding long_number
long_one c rest h = rw (digit_last 0 c rest h) refl

-- a number that digits in front wrote
abbrev behind_digit : ℕ → List ℕ → Result (ℕ × List ℕ) Why
behind_digit n bs = digit n bs >>= λ b.
    if b.1 then long_enough b.0 b.2
    else (digit b.0 b.2 >>= λ c.
    if c.1 then long_enough c.0 c.2 else Err BadTag)

long_more : (d : ℕ) (rest : List ℕ) → d < 128 → 0 < d → long_number ((128 + d) ∷ rest) ≡ behind_digit (0 * 128 + d) rest
unfolding long_number
long_more d rest h some =
    let other : (0 * 128 + d == 0) ≡ false = grind (arith, nat_tests) in
    rw (digit_more 0 d rest h, other) refl

long_zero : (rest : List ℕ) → long_number ((128 + 0) ∷ rest) ≡ Err BadTag
unfolding long_number
long_zero rest = rw (digit_more 0 0 rest (omega arith)) refl

behind_last : (n c : ℕ) (rest : List ℕ) → c < 128 → behind_digit n (c ∷ rest) ≡ long_enough (n * 128 + c) rest
behind_last n c rest h = rw (digit_last n c rest h) refl

behind_more : (n d c : ℕ) (rest : List ℕ) → d < 128 → c < 128 → behind_digit n ((128 + d) ∷ c ∷ rest) ≡ long_enough ((n * 128 + d) * 128 + c) rest
behind_more n d c rest h g = rw (digit_more n d (c ∷ rest) h, digit_last (n * 128 + d) c rest g) refl

enough : (n : ℕ) (rest : List ℕ) → 31 ≤ n → n < 65536 → long_enough n rest ≡ Ok (n, rest)
enough n rest h g =
    let low : nat_lt n 31 ≡ false = grind (arith, nat_tests) in
    let high : nat_lt 65535 n ≡ false = grind (arith, nat_tests) in
    rw (low, high) refl

-- the digits of a tag's number
abbrev pub long_digits : ℕ → List ℕ
long_digits n = marked (n / 128) ++ n % 128 ∷ []

digits_behind : (m c : ℕ) → c < 128 → long_digits (m * 128 + c) ≡ marked m ++ c ∷ []
digits_behind m c h = rw (div-mul-add m 128 c h, mod-mul-add m 128 c h) refl

one_digit : (c : ℕ) → c < 128 → long_digits (0 * 128 + c) ≡ c ∷ []
one_digit c h = digits_behind 0 c h

marked_one : (d : ℕ) → d < 128 → 0 < d → marked (0 * 128 + d) ≡ (128 + d) ∷ []
marked_one d h some = marked_push 0 d h (omega arith)

two_digits : (d c : ℕ) → d < 128 → 0 < d → c < 128 → long_digits ((0 * 128 + d) * 128 + c) ≡ (128 + d) ∷ c ∷ []
two_digits d c h some g = digits_behind (0 * 128 + d) c g ∙ ap (λ (ds : List ℕ). ds ++ c ∷ []) (marked_one d h some)

three_digits : (d e c : ℕ) → d < 128 → 0 < d → e < 128 → c < 128 → long_digits (((0 * 128 + d) * 128 + e) * 128 + c) ≡ (128 + d) ∷ (128 + e) ∷ c ∷ []
three_digits d e c h some k g =
    digits_behind ((0 * 128 + d) * 128 + e) c g
    ∙ ap (λ (ds : List ℕ). ds ++ c ∷ []) (marked_push (0 * 128 + d) e k (omega arith) ∙ ap (λ (ds : List ℕ). ds ++ ((128 + e) ∷ [])) (marked_one d h some))

-- what is read from the digits of a number
given_at : (n m : ℕ) (ds rest : List ℕ) → n ≡ m → 31 ≤ n → n < 65536 → long_digits m ≡ ds → long_number (ds ++ rest) ≡ long_enough m rest
    → long_number (long_digits n ++ rest) ≡ Ok (n, rest)
given_at n m ds rest is h g digits read =
    ap (λ (x : ℕ). long_number (long_digits x ++ rest)) is ∙ ap (λ (xs : List ℕ). long_number (xs ++ rest)) digits ∙ read
    ∙ ap (λ (x : ℕ). long_enough x rest) (sym is) ∙ enough n rest h g

given_one : (n : ℕ) (rest : List ℕ) → 31 ≤ n → n < 128 → long_number (long_digits n ++ rest) ≡ Ok (n, rest)
given_one n rest h g = given_at n (0 * 128 + n) (n ∷ []) rest (omega arith) h (omega arith) (one_digit n g) (long_one n rest g)

given_two : (n d c : ℕ) (rest : List ℕ) → n ≡ d * 128 + c → 0 < d → d < 128 → c < 128 → long_number (long_digits n ++ rest) ≡ Ok (n, rest)
given_two n d c rest is some h g =
    given_at n ((0 * 128 + d) * 128 + c) ((128 + d) ∷ c ∷ []) rest (omega arith) (omega arith) (omega arith) (two_digits d c h some g)
    (long_more d (c ∷ rest) h some ∙ behind_last (0 * 128 + d) c rest g)

given_three : (n d e c : ℕ) (rest : List ℕ) → n ≡ (d * 128 + e) * 128 + c → 0 < d → d < 4 → e < 128 → c < 128 → long_number (long_digits n ++ rest) ≡ Ok (n, rest)
given_three n d e c rest is some h k g =
    given_at n (((0 * 128 + d) * 128 + e) * 128 + c) ((128 + d) ∷ (128 + e) ∷ c ∷ []) rest (omega arith) (omega arith) (omega arith)
    (three_digits d e c (omega arith) some k g)
    (long_more d ((128 + e) ∷ c ∷ rest) (omega arith) some ∙ behind_more (0 * 128 + d) e c rest k g)

pub long_given : (n : ℕ) (rest : List ℕ) → 31 ≤ n → n < 65536 → long_number (long_digits n ++ rest) ≡ Ok (n, rest)
long_given n rest h g =
    elim (cases_lt n 128) [
      | inl small ↦ given_one n rest h small
      | inr large ↦ elim (cases_lt n 16384) [
        | inl small ↦ given_two n (n / 128) (n % 128) rest (omega arith) (omega arith) (omega arith) (omega arith)
        | inr larger ↦ given_three n (n / 128 / 128) (n / 128 % 128) (n % 128) rest (omega arith) (omega arith) (omega arith) (omega arith) (omega arith)
      ]
    ]

pub no_value : {A : Type 0} {w : Why} {r : Result A Why} {x : A} → r ≡ Err w → r ≡ Ok x → ⊥
no_value e is = cc

-- the digits where a number was read
pub record Numbered (bs : List ℕ) (n : ℕ) (rest : List ℕ) : Type 0 where
  pub written : bs ≡ long_digits n ++ rest
  pub low : 31 ≤ n
  pub high : n < 65536

pub same_value : {A : Type 0} {x y : A} → ◌≡◌ {A = Result A Why} (Ok x) (Ok y) → x ≡ y
same_value e = cc

pub first_same : {A B : Type 0} {x y : A × B} → ◌≡◌ {A = Result (A × B) Why} (Ok x) (Ok y) → x.0 ≡ y.0
first_same {A} {B} {x} {y} e = ap (λ (z : A × B). z.0) (same_value e)

pub second_same : {A B : Type 0} {x y : A × B} → ◌≡◌ {A = Result (A × B) Why} (Ok x) (Ok y) → x.1 ≡ y.1
second_same {A} {B} {x} {y} e = ap (λ (z : A × B). z.1) (same_value e)

enough_if : (m : ℕ) (bs : List ℕ) (n : ℕ) (rest : List ℕ) (t u : Bool) → nat_lt m 31 ≡ t → nat_lt 65535 m ≡ u
    → if◌then◌else◌ {A = Result (ℕ × List ℕ) Why} (t || u) (Err BadTag) (Ok (m, bs)) ≡ Ok (n, rest) → (m ≡ n) × (bs ≡ rest) × (31 ≤ m) × (m < 65536)
enough_if m bs n rest true u h g e = absurd cc
enough_if m bs n rest false true h g e = absurd cc
enough_if m bs n rest false false h g e = (first_same e, second_same e, above m 31 h, omega (arith, above 65535 m g))

enough_found : (m : ℕ) (bs : List ℕ) (n : ℕ) (rest : List ℕ) → long_enough m bs ≡ Ok (n, rest) → (m ≡ n) × (bs ≡ rest) × (31 ≤ m) × (m < 65536)
enough_found m bs n rest e = enough_if m bs n rest _ _ refl refl e

found_at : (m : ℕ) (ds bs : List ℕ) (n : ℕ) (rest : List ℕ) → long_digits m ≡ ds → long_enough m bs ≡ Ok (n, rest) → Numbered (ds ++ bs) n rest
found_at m ds bs n rest digits e =
    let f = enough_found m bs n rest e in
    let same : m ≡ n = f.0 in
    record {
      written = ap (λ (xs : List ℕ). xs ++ bs) (sym digits) ∙ ap (λ (x : ℕ). long_digits x ++ bs) same ∙ ap (λ (xs : List ℕ). long_digits n ++ xs) f.1;
      low = omega (arith, f.2);
      high = omega (arith, f.3);
    }

byte_view : (b : ℕ) → b < 256 → (b < 128) ⊎ ((d : ℕ) × (d < 128) × (b ≡ 128 + d))
byte_view b h = elim (cases_lt b 128) [ inl small ↦ inl small | inr large ↦ inr (b - 128, omega arith, omega arith) ]

digit_end : (n : ℕ) → digit n [] ≡ Err Truncated
unfolding digit
digit_end n = refl

behind_end : (n : ℕ) → behind_digit n [] ≡ Err Truncated
behind_end n = rw (digit_end n) refl

behind_cut : (n d : ℕ) → d < 128 → behind_digit n ((128 + d) ∷ []) ≡ Err Truncated
behind_cut n d h = rw (digit_more n d [] h, digit_end (n * 128 + d)) refl

behind_far : (n d e : ℕ) (rest : List ℕ) → d < 128 → e < 128 → behind_digit n ((128 + d) ∷ (128 + e) ∷ rest) ≡ Err BadTag
behind_far n d e rest h g = rw (digit_more n d ((128 + e) ∷ rest) h, digit_more (n * 128 + d) e rest g) refl

third_found : (d e : ℕ) (bs : List ℕ) (n : ℕ) (rest : List ℕ) → d < 128 → 0 < d → e < 128 → AllBelowBase 256 bs
    → behind_digit (0 * 128 + d) ((128 + e) ∷ bs) ≡ Ok (n, rest) → Numbered ((128 + d) ∷ (128 + e) ∷ bs) n rest
third_found d e [] n rest h some g below is = absurd (no_value (behind_cut (0 * 128 + d) e g) is)
third_found d e (c ∷ bs) n rest h some g below is =
    elim (byte_view c below.0) [
      | inl small ↦ found_at (((0 * 128 + d) * 128 + e) * 128 + c) ((128 + d) ∷ (128 + e) ∷ c ∷ []) bs n rest (three_digits d e c h some g small)
          (sym (behind_more (0 * 128 + d) e c bs g small) ∙ is)
      | inr far ↦ absurd (no_value (behind_far (0 * 128 + d) e far.0 bs g far.1) (subst (λ (x : ℕ). behind_digit (0 * 128 + d) ((128 + e) ∷ x ∷ bs) ≡ Ok (n, rest)) far.2 is))
    ]

second_found : (d : ℕ) (bs : List ℕ) (n : ℕ) (rest : List ℕ) → d < 128 → 0 < d → AllBelowBase 256 bs
    → behind_digit (0 * 128 + d) bs ≡ Ok (n, rest) → Numbered ((128 + d) ∷ bs) n rest
second_found d [] n rest h some below is = absurd (no_value (behind_end (0 * 128 + d)) is)
second_found d (c ∷ bs) n rest h some below is =
    elim (byte_view c below.0) [
      | inl small ↦ found_at ((0 * 128 + d) * 128 + c) ((128 + d) ∷ c ∷ []) bs n rest (two_digits d c h some small)
          (sym (behind_last (0 * 128 + d) c bs small) ∙ is)
      | inr far ↦ subst (λ (x : ℕ). Numbered ((128 + d) ∷ x ∷ bs) n rest) (sym far.2)
          (third_found d far.0 bs n rest h some far.1 below.1 (subst (λ (x : ℕ). behind_digit (0 * 128 + d) (x ∷ bs) ≡ Ok (n, rest)) far.2 is))
    ]

first_more : (d : ℕ) (bs : List ℕ) (n : ℕ) (rest : List ℕ) → d < 128 → AllBelowBase 256 bs
    → long_number ((128 + d) ∷ bs) ≡ Ok (n, rest) → Numbered ((128 + d) ∷ bs) n rest
first_more zero bs n rest h below is = absurd (no_value (long_zero bs) is)
first_more (suc d) bs n rest h below is =
    second_found (suc d) bs n rest h (omega arith) below (sym (long_more (suc d) bs h (omega arith)) ∙ is)

long_end : long_number [] ≡ Err Truncated
unfolding long_number
long_end = rw (digit_end 0) refl

pub long_found : (bs : List ℕ) (n : ℕ) (rest : List ℕ) → AllBelowBase 256 bs → long_number bs ≡ Ok (n, rest) → Numbered bs n rest
long_found [] n rest below is = absurd (no_value long_end is)
long_found (c ∷ bs) n rest below is =
    elim (byte_view c below.0) [
      | inl small ↦ found_at (0 * 128 + c) (c ∷ []) bs n rest (one_digit c small) (sym (long_one c bs small) ∙ is)
      | inr far ↦ subst (λ (x : ℕ). Numbered (x ∷ bs) n rest) (sym far.2)
          (first_more far.0 bs n rest far.1 below.1 (subst (λ (x : ℕ). long_number (x ∷ bs) ≡ Ok (n, rest)) far.2 is))
    ]

-- tags
abbrev tag_with : TagClass → Bool → ℕ → Tag
tag_with c f n = record { class = c; is_constructed = f; number = n }

-- the tag whose first octet is b, and what is left behind its number
abbrev tagged_by : ℕ → ℕ × List ℕ → Result (Tag × List ℕ) Why
tagged_by b x = Ok (tag_with (class_of b) (is_constructed b) x.0, x.1)

same_tags : (c d : TagClass) (f g : Bool) (n m : ℕ) → c ≡ d → f ≡ g → n ≡ m → tag_with c f n ≡ tag_with d g m
same_tags c d f g n m h k l = cc

identifier_short : (t : Tag) → t.number < 31 → identifier t ≡ (front t.class t.is_constructed + t.number) ∷ []
unfolding identifier
identifier_short t h =
    let test : nat_lt t.number 31 ≡ true = grind (arith, nat_tests) in
    rw test refl

identifier_long : (t : Tag) → 31 ≤ t.number → identifier t ≡ (front t.class t.is_constructed + 31) ∷ long_digits t.number
unfolding identifier
identifier_long t h =
    let test : nat_lt t.number 31 ≡ false = grind (arith, nat_tests) in
    rw test refl

-- a tag has an octet at least
pub identifier_some : (t : Tag) → 0 < length (identifier t)
identifier_some t =
    elim (cases_lt t.number 31) [
      | inl small ↦ omega (arith, ap (λ (xs : List ℕ). length xs) (identifier_short t small))
      | inr large ↦ omega (arith, ap (λ (xs : List ℕ). length xs) (identifier_long t large))
    ]

tag_short : (b : ℕ) (bs : List ℕ) → b % 32 < 31 → tag_of (b ∷ bs) ≡ Ok (tag_with (class_of b) (is_constructed b) (b % 32), bs)
unfolding tag_of
tag_short b bs h =
    let test : nat_lt (b % 32) 31 ≡ true = grind (arith, nat_tests) in
    rw test refl

tag_long : (b : ℕ) (bs : List ℕ) → 31 ≤ b % 32 → tag_of (b ∷ bs) ≡ (long_number bs >>= tagged_by b)
unfolding tag_of
tag_long b bs h =
    let test : nat_lt (b % 32) 31 ≡ false = grind (arith, nat_tests) in
    rw test refl

tag_end : tag_of [] ≡ Err Truncated
unfolding tag_of
tag_end = refl

given_short : (t : Tag) (rest : List ℕ) → t.number < 31 → tag_of (identifier t ++ rest) ≡ Ok (t, rest)
given_short t rest h =
    let b = front t.class t.is_constructed + t.number in
    let low : b % 32 ≡ t.number = low_front t.class t.is_constructed t.number (omega arith) in
    ap (λ (xs : List ℕ). tag_of (xs ++ rest)) (identifier_short t h)
    ∙ tag_short b rest (omega arith)
    ∙ ap (λ (x : Tag). Ok (x, rest)) (same_tags _ t.class _ t.is_constructed _ t.number (class_front t.class t.is_constructed t.number (omega arith)) (form_front t.class t.is_constructed t.number (omega arith)) low)

given_long : (t : Tag) (rest : List ℕ) → 31 ≤ t.number → t.number < 65536 → tag_of (identifier t ++ rest) ≡ Ok (t, rest)
given_long t rest h g =
    let b = front t.class t.is_constructed + 31 in
    let low : b % 32 ≡ 31 = low_front t.class t.is_constructed 31 (omega arith) in
    ap (λ (xs : List ℕ). tag_of (xs ++ rest)) (identifier_long t h)
    ∙ tag_long b (long_digits t.number ++ rest) (omega arith)
    ∙ ap (λ (r : Result (ℕ × List ℕ) Why). r >>= tagged_by b) (long_given t.number rest h g)
    ∙ ap (λ (x : Tag). Ok (x, rest)) (same_tags _ t.class _ t.is_constructed _ t.number (class_front t.class t.is_constructed 31 (omega arith)) (form_front t.class t.is_constructed 31 (omega arith)) refl)

-- the tag is read from its octets
pub tag_given : (t : Tag) (rest : List ℕ) → t.number < 2 ^ 16 → tag_of (identifier t ++ rest) ≡ Ok (t, rest)
tag_given t rest h = elim (cases_lt t.number 31) [ inl small ↦ given_short t rest small | inr large ↦ given_long t rest large (omega arith) ]

-- where a tag was read its octets stand
pub record Tagged (bs : List ℕ) (t : Tag) (rest : List ℕ) : Type 0 where
  pub written : bs ≡ identifier t ++ rest
  pub small : t.number < 2 ^ 16

found_short : (b : ℕ) (bs : List ℕ) → b < 256 → b % 32 < 31 → Tagged (b ∷ bs) (tag_with (class_of b) (is_constructed b) (b % 32)) bs
found_short b bs h g =
    let t = tag_with (class_of b) (is_constructed b) (b % 32) in
    record {
      written = ap (λ (x : ℕ). x ∷ bs) (sym (front_is b h)) ∙ ap (λ (xs : List ℕ). xs ++ bs) (sym (identifier_short t g));
      small = omega arith;
    }

found_long : (b : ℕ) (bs : List ℕ) (n : ℕ) (rest : List ℕ) → b < 256 → 31 ≤ b % 32 → Numbered bs n rest → Tagged (b ∷ bs) (tag_with (class_of b) (is_constructed b) n) rest
found_long b bs n rest h g found =
    let t = tag_with (class_of b) (is_constructed b) n in
    let last : b % 32 ≡ 31 = omega arith in
    let first : front (class_of b) (is_constructed b) + 31 ≡ b = ap (λ (x : ℕ). front (class_of b) (is_constructed b) + x) (sym last) ∙ front_is b h in
    record {
      written =
          ap (λ (xs : List ℕ). b ∷ xs) found.written ∙ ap (λ (x : ℕ). x ∷ (long_digits n ++ rest)) (sym first)
          ∙ ap (λ (xs : List ℕ). xs ++ rest) (sym (identifier_long t found.low));
      small = omega (arith, found.high);
    }

found_in : (b : ℕ) (bs : List ℕ) (t : Tag) (rest : List ℕ) (r : Result (ℕ × List ℕ) Why) → b < 256 → 31 ≤ b % 32 → AllBelowBase 256 bs → long_number bs ≡ r
    → (r >>= tagged_by b) ≡ Ok (t, rest) → Tagged (b ∷ bs) t rest
found_in b bs t rest (Err w) h g below read e = absurd cc
found_in b bs t rest (Ok x) h g below read e =
    let same : tag_with (class_of b) (is_constructed b) x.0 ≡ t = first_same e in
    let left : x.1 ≡ rest = second_same e in
    subst (λ (y : Tag). Tagged (b ∷ bs) y rest) same
    (subst (λ (xs : List ℕ). Tagged (b ∷ bs) (tag_with (class_of b) (is_constructed b) x.0) xs) left (found_long b bs x.0 x.1 h g (long_found bs x.0 x.1 below read)))

pub tag_found : (bs : List ℕ) (t : Tag) (rest : List ℕ) → AllBelowBase 256 bs → tag_of bs ≡ Ok (t, rest) → Tagged bs t rest
tag_found [] t rest below e = absurd (no_value tag_end e)
tag_found (b ∷ bs) t rest below e =
    elim (cases_lt (b % 32) 31) [
      | inl small ↦ same (tag_with (class_of b) (is_constructed b) (b % 32)) bs (sym (tag_short b bs small) ∙ e) (found_short b bs below.0 small)
      | inr large ↦ found_in b bs t rest (long_number bs) below.0 large below.1 refl (sym (tag_long b bs large) ∙ e)
    ]
  where
    same : (u : Tag) (xs : List ℕ) → ◌≡◌ {A = Result (Tag × List ℕ) Why} (Ok (u, xs)) (Ok (t, rest)) → Tagged (b ∷ bs) u xs → Tagged (b ∷ bs) t rest
    same u xs is found =
        let one : u ≡ t = first_same is in
        let two : xs ≡ rest = second_same is in
        subst (λ (y : Tag). Tagged (b ∷ bs) y rest) one (subst (λ (ys : List ℕ). Tagged (b ∷ bs) u ys) two found)
