-- The exact reading: the element at the front of what is left, or what is wrong with it. What it means
-- is said by the laws that join it to the elements as they are written.
use Rattle.std.specs.Prelude.{ℕ, zero, suc, ◌+◌, ◌-◌, ◌*◌, ◌/◌, ◌%◌, ℤ, Bool, true, false, ◌||◌, ◌==◌, nat_lt, if◌then◌else◌, List, [], ◌∷◌, ◌++◌, length, take, drop, Some, Result, Ok, Err}
use Rattle.std.specs.Int.{from_be_bytes, cast_signed, w32}
use Rattle.std.specs.Int.Digits.{number_from_digits}
use Rattle.mh_base.specs.Reading as base
use Rattle.mh_base.specs.Reading.{◌>>=◌, Rest}
use Rattle.mh_der.specs.declared.tag.Tag.{Tag}
use Rattle.mh_der.specs.declared.tag.TagClass.{TagClass}
use Rattle.mh_der.specs.declared.tag.TagClass.TheVariants as class
use Rattle.mh_der.specs.declared.der_error.Why.{Why}
use Rattle.mh_der.specs.declared.der_error.Why.TheVariants.{Truncated, BadTag, LongLength, Indefinite, BadInteger, BadBoolean, Trailing}
use Rattle.mh_der.specs.declared.der_error.DerError.{DerError}
use Rattle.mh_der.specs.Rest.{Element}
use Rattle.mh_der.specs.Integer.{is_padded}

-- what a function returned, seen by view, is what the reading gives
abbrev pub Gives : {X Y E : Type 0} → (X → Y) → Result X E → Result Y E → Type 0
Gives view result read = base.Gives Some view result read

abbrev pub class_of : ℕ → TagClass
class_of b =
    if nat_lt b 64 then class.Universal
    else (if nat_lt b 128 then class.Application else (if nat_lt b 192 then class.Context else class.Private))

abbrev pub is_constructed : ℕ → Bool
is_constructed b = b / 32 % 2 == 1

-- one more digit of base 128 behind those that wrote n: the number, whether the digit is the last, and
-- what is left
unfoldable pub digit : ℕ → List ℕ → Result (ℕ × Bool × List ℕ) Why
digit n [] = Err Truncated
digit n (b ∷ bs) = Ok (n * 128 + b % 128, nat_lt b 128, bs)

-- a number that wants digits behind the first octet, and that tags may have
abbrev pub long_enough : ℕ → List ℕ → Result (ℕ × List ℕ) Why
long_enough n bs = if nat_lt n 31 || nat_lt 65535 n then Err BadTag else Ok (n, bs)

-- the number of a tag in digits: at most three, and the first not zero where others follow
unfoldable pub long_number : List ℕ → Result (ℕ × List ℕ) Why
long_number bs = digit 0 bs >>= λ a.
    if a.1 then long_enough a.0 a.2
    else (if a.0 == 0 then Err BadTag else (digit a.0 a.2 >>= λ b.
    if b.1 then long_enough b.0 b.2
    else (digit b.0 b.2 >>= λ c.
    if c.1 then long_enough c.0 c.2 else Err BadTag)))

-- the tag at the front, and what is left behind it
unfoldable pub tag_of : List ℕ → Result (Tag × List ℕ) Why
tag_of [] = Err Truncated
tag_of (b ∷ bs) =
    if nat_lt (b % 32) 31 then Ok (record { class = class_of b; is_constructed = is_constructed b; number = b % 32 }, bs)
    else (long_number bs >>= λ x. Ok (record { class = class_of b; is_constructed = is_constructed b; number = x.0 }, x.1))

abbrev pub begins_with_zero : List ℕ → Bool
begins_with_zero [] = false
begins_with_zero (b ∷ bs) = b == 0

-- a length that what is left has
abbrev pub held : ℕ → List ℕ → Result (ℕ × List ℕ) Why
held n bs = if nat_lt (length bs) n then Err Truncated else Ok (n, bs)

-- the length that these digits write, which are as few as there can be
unfoldable pub long_length : List ℕ → List ℕ → Result (ℕ × List ℕ) Why
long_length digits bs =
    if begins_with_zero digits || nat_lt (number_from_digits 256 digits) 128 then Err LongLength
    else held (number_from_digits 256 digits) bs

-- the length of the contents, and what is left behind it, which begins with them
unfoldable pub length_of : List ℕ → Result (ℕ × List ℕ) Why
length_of [] = Err Truncated
length_of (b ∷ bs) =
    if nat_lt b 128 then held b bs
    else (if b == 128 then Err Indefinite
    else (if nat_lt (length bs) (b - 128) then Err Truncated else long_length (take (b - 128) bs) (drop (b - 128) bs)))

-- the tag and the contents of the element at the front, and what is left behind it
unfoldable pub parts : List ℕ → Result (Tag × List ℕ × List ℕ) Why
parts bytes = do
  t ← tag_of bytes
  n ← length_of t.1
  Ok (t.0, take n.0 n.1, drop n.0 n.1)

-- the element that begins where reading stands, and what is left behind it
abbrev pub element_at : Rest → Tag → List ℕ → List ℕ → Element × Rest
element_at left t contents behind =
    let end = left.offset + (length left.bytes - length behind) in (
      record { tag = t; offset = left.offset; contents = record { offset = end - length contents; bytes = contents } },
      record { offset = end; bytes = behind },
    )

abbrev pub found_at : Rest → Result (Tag × List ℕ × List ℕ) Why → Result (Element × Rest) DerError
found_at left (Ok x) = Ok (element_at left x.0 x.1 x.2)
found_at left (Err w) = Err (record { why = w; offset = left.offset })

-- the next element, and what is left behind it
unfoldable pub next : Rest → Result (Element × Rest) DerError
next left = found_at left (parts left.bytes)

abbrev pub is_empty : List ℕ → Bool
is_empty [] = true
is_empty (b ∷ bs) = false

-- nothing is left
unfoldable pub ended : Rest → Result (Unit {0}) DerError
ended left = none left.bytes
  where
    none : List ℕ → Result (Unit {0}) DerError
    none [] = Ok tt
    none (b ∷ bs) = Err (record { why = Trailing; offset = left.offset })

abbrev pub sign_octet : List ℕ → ℕ
sign_octet [] = 0
sign_octet (b ∷ bs) = if nat_lt b 128 then 0 else 255

-- so many octets of this value
abbrev pub octets : ℕ → ℕ → List ℕ
octets zero b = []
octets (suc n) b = b ∷ octets n b

-- in four octets, by more of the sign in front
abbrev pub extended : List ℕ → List ℕ
extended bs = octets (4 - length bs) (sign_octet bs) ++ bs

-- the integer of 32 bits that the octets write
unfoldable pub integer_of : List ℕ → Result ℤ Why
integer_of bs =
    if length bs == 0 || nat_lt 4 (length bs) || is_padded bs then Err BadInteger
    else Ok (cast_signed w32 (from_be_bytes w32 (extended bs)))

-- the truth value that the octets write
unfoldable pub boolean_of : List ℕ → Result Bool Why
boolean_of (b ∷ []) = if b == 0 then Ok false else (if b == 255 then Ok true else Err BadBoolean)
boolean_of _ = Err BadBoolean

-- what the contents write, where the element is refused if they write nothing
abbrev pub told_at : {A : Type 0} → Element → Result A Why → Result A DerError
told_at e (Ok x) = Ok x
told_at e (Err w) = Err (record { why = w; offset = e.offset })
