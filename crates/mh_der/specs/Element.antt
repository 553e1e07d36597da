-- Elements as the distinguished encoding rules write them (ITU-T X.690, 8.1 and 10.1): octets that
-- name the tag, octets that tell the length, and the contents.
use Rattle.std.specs.Prelude.{ℕ, ◌+◌, ◌/◌, ◌%◌, ◌==◌, ◌-◌, ◌||◌, Bool, true, false, nat_lt, if◌then◌else◌, List, [], ◌∷◌, ◌++◌, length, map, take, drop}
use Rattle.std.specs.Int.Digits.{digits_of}
use Rattle.std.specs.List.{starts_with}
use Rattle.mh_der.specs.declared.tag.Tag.{Tag}
use Rattle.mh_der.specs.declared.tag.TagClass.{TagClass}
use Rattle.mh_der.specs.declared.tag.TagClass.TheVariants as class

-- the two highest bits of the first octet tell the class (8.1.2.2)
abbrev pub class_bits : TagClass → ℕ
class_bits class.Universal = 0
class_bits class.Application = 64
class_bits class.Context = 128
class_bits class.Private = 192

-- the next bit tells whether the contents are elements (8.1.2.5)
abbrev pub form_bit : Bool → ℕ
form_bit false = 0
form_bit true = 32

-- The identifier octets. A number from 31 on follows in digits of base 128, as few as there can be; on
-- each but the last the highest bit says that more follow (8.1.2.4).
unfoldable pub identifier : Tag → List ℕ
identifier t =
    let front = class_bits t.class + form_bit t.is_constructed in
    if nat_lt t.number 31 then (front + t.number) ∷ []
    else (front + 31) ∷ (map (λ d. 128 + d) (digits_of 128 (t.number / 128)) ++ (t.number % 128) ∷ [])

-- the octets begin with the identifier octets of this tag
unfoldable pub begins_with : List ℕ → Tag → Bool
begins_with octets t = starts_with (λ a b. a == b) octets (identifier t)

-- The length octets: the length itself below 128, else its digits of base 256, as few as there can
-- be, behind their count (8.1.3.4, 8.1.3.5 and 10.1).
unfoldable pub length_octets : ℕ → List ℕ
length_octets n =
    if nat_lt n 128 then n ∷ [] else (128 + length (digits_of 256 n)) ∷ digits_of 256 n

-- the element with this tag and these contents
unfoldable pub element : Tag → List ℕ → List ℕ
element t contents = identifier t ++ (length_octets (length contents) ++ contents)

-- what stands in front of contents that are still to come: the identifier octets, and one octet in place of
-- those of the length
unfoldable pub begun : Tag → List ℕ
begun t = identifier t ++ 0 ∷ []

-- the octets where the one in front of the offset gave way to the length of all that stands from there on
unfoldable pub ended : ℕ → List ℕ → List ℕ
ended start octets =
    if start == 0 || nat_lt (length octets) start then octets
    else take (start - 1) octets ++ (length_octets (length octets - start) ++ drop start octets)
