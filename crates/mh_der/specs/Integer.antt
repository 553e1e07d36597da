-- Integers of 32 bits and truth values as contents of elements (ITU-T X.690, 8.2, 8.3 and 11.1).
use Rattle.std.specs.Prelude.{ℕ, ℤ, Bool, true, false, ◌&&◌, ◌||◌, ◌==◌, nat_lt, nat_le, if◌then◌else◌, List, [], ◌∷◌}
use Rattle.std.specs.Int.{to_be_bytes, cast_unsigned, w32}

-- the first nine bits are alike, so the first octet says nothing (8.3.2)
abbrev pub is_padded : List ℕ → Bool
is_padded (a ∷ b ∷ bs) = (a == 0 && nat_lt b 128) || (a == 255 && nat_le 128 b)
is_padded _ = false

-- without octets in front that say nothing
abbrev pub shortest : List ℕ → List ℕ
shortest [] = []
shortest (a ∷ bs) = if is_padded (a ∷ bs) then shortest bs else a ∷ bs

-- the two's complement of the integer, in as few octets as there can be
unfoldable pub integer_octets : ℤ → List ℕ
integer_octets x = shortest (to_be_bytes w32 (cast_unsigned w32 x))

abbrev pub boolean_octets : Bool → List ℕ
boolean_octets false = 0 ∷ []
boolean_octets true = 255 ∷ []
