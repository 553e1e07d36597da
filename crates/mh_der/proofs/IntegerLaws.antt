-- Where an integer or a truth value is read it stands as it is written, and each that is written is read.
use Rattle.std.proofs.Common.{◌≡◌, ℕ, zero, suc, ◌+◌, ◌-◌, ◌<◌, ◌≤◌, ◌^◌, ℤ, SFits, Bool, true, false, ◌||◌, ◌==◌, nat_lt, nat_le, if◌then◌else◌, List, [], ◌∷◌, ◌++◌, length, Result, Ok, Err, refl, sym, ◌∙◌, ap, subst, arith, length-append}
use Rattle.std.specs.Int.{from_be_bytes, to_be_bytes, cast_signed, cast_unsigned, w32}
use Rattle.std.specs.Int.Digits.{AllBelowBase}
use Rattle.std.proofs.Math.Facts.{Fits-of_lt, Fits-of_z, Fits-lt-pow, sfits_to_z}
use Rattle.std.proofs.lemmas.Int.{to_z-of_z, of_z-to_z}
use Rattle.std.proofs.lemmas.Nat.{be_bytes_4, from_be_bytes-to_be_bytes_4}
use Rattle.std.proofs.lemmas.Bool.Decides.{nat_tests}
use Rattle.mh_der.specs.declared.der_error.Why.{Why}
use Rattle.mh_der.specs.declared.der_error.Why.TheVariants.{BadInteger, BadBoolean}
use Rattle.mh_der.specs.Integer.{is_padded, shortest, integer_octets, boolean_octets}
use Rattle.mh_der.specs.Laws.{AreNoInteger, AreNoBoolean}
use Rattle.mh_der.specs.Reading.{sign_octet, octets, extended, integer_of, boolean_of}
use Rattle.mh_der.proofs.TagLemmas.{same_value, no_value}
use Rattle.mh_der.proofs.DigitLemmas.{AreBytes, bytes_below, below_bytes}

-- the sign of more of the sign
sign_of_sign : (bs : List ℕ) → sign_octet (sign_octet bs ∷ bs) ≡ sign_octet bs
sign_of_sign [] = refl
sign_of_sign (b ∷ bs) = sign_if (nat_lt b 128)
  where
    sign_if : (t : Bool) → if◌then◌else◌ {A = ℕ} (nat_lt (if t then 0 else 255) 128) 0 255 ≡ (if t then 0 else 255)
    sign_if true = refl
    sign_if false = refl

sign_after : (k : ℕ) (bs : List ℕ) → sign_octet (octets k (sign_octet bs) ++ bs) ≡ sign_octet bs
sign_after zero bs = refl
sign_after (suc k) bs = sign_of_sign bs

-- an octet of sign in front of others says nothing
test_above : (b : ℕ) → nat_lt b 128 ≡ false → nat_le 128 b ≡ true
test_above b h = grind (arith, nat_tests)

padded_by_sign : (b : ℕ) (bs : List ℕ) → is_padded (sign_octet (b ∷ bs) ∷ b ∷ bs) ≡ true
padded_by_sign b bs = padded_if (nat_lt b 128) refl
  where
    padded_if : (t : Bool) → nat_lt b 128 ≡ t → is_padded ((if t then 0 else 255) ∷ b ∷ bs) ≡ true
    padded_if true h = rw h refl
    padded_if false h = rw (test_above b h) refl

padded_list : (s : ℕ) (bs : List ℕ) → 0 < length bs → sign_octet bs ≡ s → is_padded (s ∷ bs) ≡ true
padded_list s [] h e = absurd (omega arith)
padded_list s (b ∷ bs) h e = subst (λ (x : ℕ). is_padded (x ∷ b ∷ bs) ≡ true) e (padded_by_sign b bs)

sign_is_front : (a b : ℕ) (bs : List ℕ) → is_padded (a ∷ b ∷ bs) ≡ true → sign_octet (b ∷ bs) ≡ a
sign_is_front a b bs h = grind (arith, nat_tests)

shortest_more : (a : ℕ) (bs : List ℕ) → is_padded (a ∷ bs) ≡ true → shortest (a ∷ bs) ≡ shortest bs
shortest_more a bs h = rw h refl

shortest_plain : (a : ℕ) (bs : List ℕ) → is_padded (a ∷ bs) ≡ false → shortest (a ∷ bs) ≡ a ∷ bs
shortest_plain a bs h = rw h refl

-- what is the shortest form of more of the sign
kept : (k a : ℕ) (bs : List ℕ) → is_padded (a ∷ bs) ≡ false → shortest (octets k (sign_octet (a ∷ bs)) ++ a ∷ bs) ≡ a ∷ bs
kept zero a bs h = shortest_plain a bs h
kept (suc k) a bs h =
    let s = sign_octet (a ∷ bs) in
    let further = octets k s ++ a ∷ bs in
    let some : 0 < length further = omega (arith, length-append (octets k s) (a ∷ bs)) in
    shortest_more s further (padded_list s further some (sign_after k (a ∷ bs))) ∙ kept k a bs h

-- the octets without some of the sign
record Short (os : List ℕ) (ys : List ℕ) : Type 0 where
  pub count : ℕ
  pub longer : octets count (sign_octet ys) ++ ys ≡ os
  pub plain : is_padded ys ≡ false
  pub some : 0 < length ys

short_if : (a b : ℕ) (bs ys : List ℕ) (t : Bool) → is_padded (a ∷ b ∷ bs) ≡ t → Short (b ∷ bs) (shortest (b ∷ bs)) → Short (a ∷ b ∷ bs) (shortest (a ∷ b ∷ bs))
short_if a b bs ys false h inner = subst (Short (a ∷ b ∷ bs)) (sym (shortest_plain a (b ∷ bs) h)) (record { count = 0; longer = refl; plain = h; some = omega arith })
short_if a b bs ys true h inner =
    let zs = shortest (b ∷ bs) in
    let sign : sign_octet zs ≡ a = sym (sign_after inner.count zs) ∙ ap sign_octet inner.longer ∙ sign_is_front a b bs h in
    subst (Short (a ∷ b ∷ bs)) (sym (shortest_more a (b ∷ bs) h))
    (record {
      count = suc inner.count;
      longer = ap (λ (xs : List ℕ). sign_octet zs ∷ xs) inner.longer ∙ ap (λ (x : ℕ). x ∷ b ∷ bs) sign;
      plain = inner.plain;
      some = inner.some;
    })

short_form : (a : ℕ) (bs : List ℕ) → Short (a ∷ bs) (shortest (a ∷ bs))
short_form a [] = record { count = 0; longer = refl; plain = refl; some = omega arith }
short_form a (b ∷ bs) = short_if a b bs [] (is_padded (a ∷ b ∷ bs)) refl (short_form b bs)

short_of : (os : List ℕ) → 0 < length os → Short os (shortest os)
short_of [] h = absurd (omega arith)
short_of (a ∷ bs) h = short_form a bs

-- in four octets
length_octets_of : (k b : ℕ) → length (octets k b) ≡ k
length_octets_of zero b = refl
length_octets_of (suc k) b = ap suc (length_octets_of k b)

extended_short : (os ys : List ℕ) → length os ≡ 4 → Short os ys → (length ys ≤ 4) × (extended ys ≡ os)
extended_short os ys four s =
    let whole : s.count + length ys ≡ 4 =
    omega (arith, length_octets_of s.count (sign_octet ys), length-append (octets s.count (sign_octet ys)) ys, ap (λ (xs : List ℕ). length xs) s.longer) in
    let count : 4 - length ys ≡ s.count = omega arith in
    (omega arith, ap (λ (k : ℕ). octets k (sign_octet ys) ++ ys) count ∙ s.longer)

length_extended : (bs : List ℕ) → length bs ≤ 4 → length (extended bs) ≡ 4
length_extended bs h = omega (arith, length_octets_of (4 - length bs) (sign_octet bs), length-append (octets (4 - length bs) (sign_octet bs)) bs)

below_octets : (k b : ℕ) (bs : List ℕ) → b < 256 → AllBelowBase 256 bs → AllBelowBase 256 (octets k b ++ bs)
below_octets zero b bs h rest = rest
below_octets (suc k) b bs h rest = (h, below_octets k b bs h rest)

sign_small : (bs : List ℕ) → sign_octet bs < 256
sign_small [] = omega arith
sign_small (b ∷ bs) = sign_if (nat_lt b 128)
  where
    sign_if : (t : Bool) → if◌then◌else◌ {A = ℕ} t 0 255 < 256
    sign_if true = omega arith
    sign_if false = omega arith

bytes_extended : (bs : List ℕ) → AreBytes bs → AreBytes (extended bs)
bytes_extended bs h = below_bytes (extended bs) (below_octets (4 - length bs) (sign_octet bs) bs (sign_small bs) (bytes_below bs h))

-- the number that octets write in two's complement
abbrev value : List ℕ → ℕ
value bs = from_be_bytes w32 (extended bs)

-- the octets that an integer was read from
record Whole (bs : List ℕ) (x : ℤ) : Type 0 where
  pub some : 0 < length bs
  pub few : length bs ≤ 4
  pub plain : is_padded bs ≡ false
  pub is : cast_signed w32 (value bs) ≡ x

not_zero : (n : ℕ) → (n == 0) ≡ false → 0 < n
not_zero n h = grind (arith, nat_tests)

above : (b n : ℕ) → nat_lt b n ≡ false → n ≤ b
above b n h = grind (arith, nat_tests)

whole_if : (bs : List ℕ) (x : ℤ) (t u v : Bool) → (length bs == 0) ≡ t → nat_lt 4 (length bs) ≡ u → is_padded bs ≡ v
    → if◌then◌else◌ {A = Result ℤ Why} (t || u || v) (Err BadInteger) (Ok (cast_signed w32 (value bs))) ≡ Ok x → Whole bs x
whole_if bs x true u v h g p e = absurd cc
whole_if bs x false true v h g p e = absurd cc
whole_if bs x false false true h g p e = absurd cc
whole_if bs x false false false h g p e = record { some = not_zero (length bs) h; few = above 4 (length bs) g; plain = p; is = same_value e }

whole : (bs : List ℕ) (x : ℤ) → integer_of bs ≡ Ok x → Whole bs x
unfolding integer_of
whole bs x e = whole_if bs x _ _ _ refl refl refl e

-- the octets are too few or too many, or not as few as there can be
abbrev pub is_refused : List ℕ → Bool
is_refused bs = length bs == 0 || nat_lt 4 (length bs) || is_padded bs

pub refused_octets : (bs : List ℕ) → is_refused bs ≡ true → integer_of bs ≡ Err BadInteger
unfolding integer_of
refused_octets bs h = rw h refl

pub taken_octets : (bs : List ℕ) → is_refused bs ≡ false → integer_of bs ≡ Ok (cast_signed w32 (from_be_bytes w32 (extended bs)))
unfolding integer_of
taken_octets bs h = rw h refl

given_whole : (bs : List ℕ) → 0 < length bs → length bs ≤ 4 → is_padded bs ≡ false → integer_of bs ≡ Ok (cast_signed w32 (value bs))
unfolding integer_of
given_whole bs some few plain =
    let none : (length bs == 0) ≡ false = grind (arith, nat_tests) in
    let many : nat_lt 4 (length bs) ≡ false = grind (arith, nat_tests) in
    rw (none, many, plain) refl

octets_are : (x : ℤ) → integer_octets x ≡ shortest (to_be_bytes w32 (cast_unsigned w32 x))
unfolding integer_octets
octets_are x = refl

-- the octets that are written
pub octets_of_bytes : (x : ℤ) (bs os : List ℕ) → SFits w32 x → bs ≡ to_be_bytes w32 (cast_unsigned w32 (cast_signed w32 (cast_unsigned w32 x))) → os ≡ shortest bs → os ≡ integer_octets x
octets_of_bytes x bs os fits bytes short =
    short ∙ ap shortest (bytes ∙ ap (λ (z : ℤ). to_be_bytes w32 (cast_unsigned w32 z)) (to_z-of_z w32 x fits)) ∙ sym (octets_are x)

kept_list : (k : ℕ) (bs : List ℕ) → 0 < length bs → is_padded bs ≡ false → shortest (octets k (sign_octet bs) ++ bs) ≡ bs
kept_list k [] some h = absurd (omega arith)
kept_list k (a ∷ bs) some h = kept k a bs h

number_small : (bs : List ℕ) → length bs ≡ 4 → AreBytes bs → from_be_bytes w32 bs < 2 ^ 32
number_small bs four h = omega (arith, h 0, h 1, h 2, h 3)

-- where an integer was read its octets stand
pub integer_found : (bs : List ℕ) (x : ℤ) → AreBytes bs → integer_of bs ≡ Ok x → bs ≡ integer_octets x
integer_found bs x bytes e =
    let w = whole bs x e in
    let four = length_extended bs w.few in
    let small = bytes_extended bs bytes in
    let number : cast_unsigned w32 x ≡ value bs =
    ap (cast_unsigned w32) (sym w.is) ∙ of_z-to_z w32 (value bs) (number_small (extended bs) four small) in
    sym (octets_are x ∙ ap (λ (n : ℕ). shortest (to_be_bytes w32 n)) number ∙ ap shortest (be_bytes_4 (extended bs) (value bs) four small refl) ∙ kept_list (4 - length bs) bs w.some w.plain)

-- what was read is an integer of 32 bits
pub integer_fits : (bs : List ℕ) (x : ℤ) → AreBytes bs → integer_of bs ≡ Ok x → SFits w32 x
integer_fits bs x bytes e =
    let w = whole bs x e in
    let small = number_small (extended bs) (length_extended bs w.few) (bytes_extended bs bytes) in
    subst (λ (z : ℤ). SFits w32 z) w.is (sfits_to_z (Fits-of_lt small))

-- each integer of 32 bits is read from its octets
pub integer_given : (x : ℤ) → SFits w32 x → integer_of (integer_octets x) ≡ Ok x
integer_given x fits =
    let n = cast_unsigned w32 x in
    let small : n < 2 ^ 32 = Fits-lt-pow (Fits-of_z fits) in
    let os = to_be_bytes w32 n in
    let ys = shortest os in
    let short : Short os ys = short_of os (omega arith) in
    let few = extended_short os ys refl short in
    ap integer_of (octets_are x)
    ∙ given_whole ys short.some few.0 short.plain
    ∙ ap (λ (bs : List ℕ). Ok (cast_signed w32 (from_be_bytes w32 bs))) few.1
    ∙ ap (λ (m : ℕ). Ok (cast_signed w32 m)) (from_be_bytes-to_be_bytes_4 n small)
    ∙ ap Ok (to_z-of_z w32 x fits)

pub integer_none : (bs : List ℕ) (why : Why) → integer_of bs ≡ Err why → AreNoInteger bs
integer_none bs why e x fits is = no_value e (ap integer_of is ∙ integer_given x fits)

same_number : (a n : ℕ) → (a == n) ≡ true → a ≡ n
same_number a n h = grind (arith, nat_tests)

boolean_if : (a : ℕ) (b t u : Bool) → (a == 0) ≡ t → (a == 255) ≡ u
    → if◌then◌else◌ {A = Result Bool Why} t (Ok false) (if u then Ok true else Err BadBoolean) ≡ Ok b → a ∷ [] ≡ boolean_octets b
boolean_if a true true u h g e = absurd cc
boolean_if a false true u h g e = ap (λ (x : ℕ). x ∷ []) (same_number a 0 h)
boolean_if a true false true h g e = ap (λ (x : ℕ). x ∷ []) (same_number a 255 g)
boolean_if a false false true h g e = absurd cc
boolean_if a b false false h g e = absurd cc

-- where a truth value was read its octet stands
pub boolean_found : (bs : List ℕ) (b : Bool) → boolean_of bs ≡ Ok b → bs ≡ boolean_octets b
unfolding boolean_of
boolean_found [] b e = absurd cc
boolean_found (a ∷ []) b e = boolean_if a b (a == 0) (a == 255) refl refl e
boolean_found (a ∷ c ∷ bs) b e = absurd cc

-- each truth value is read from its octet
pub boolean_given : (b : Bool) → boolean_of (boolean_octets b) ≡ Ok b
unfolding boolean_of
boolean_given true = refl
boolean_given false = refl

-- where nothing is read no truth value stands
pub boolean_none : (bs : List ℕ) (why : Why) → boolean_of bs ≡ Err why → AreNoBoolean bs
boolean_none bs why e b is = no_value e (ap boolean_of is ∙ boolean_given b)
