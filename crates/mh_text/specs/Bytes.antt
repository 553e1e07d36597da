-- The bytes of the textual notation: which of them are white space, letters, digits, and which may
-- stand in strings.
use Rattle.std.specs.Prelude.{ℕ, zero, suc, ◌+◌, ◌-◌, ◌*◌, ℤ, pos, negsuc, Bool, false, ◌&&◌, ◌||◌, not, ◌==◌, nat_le, if◌then◌else◌, List, [], ◌∷◌}

-- the byte is one of those from low to high
abbrev pub is_within : ℕ → ℕ → ℕ → Bool
is_within low high b = nat_le low b && nat_le b high

-- space, tab, carriage return, line feed
abbrev pub is_space : ℕ → Bool
is_space b = b == 32 || b == 9 || b == 13 || b == 10

abbrev pub is_letter : ℕ → Bool
is_letter b = is_within 65 90 b || is_within 97 122 b

abbrev pub is_digit : ℕ → Bool
is_digit b = is_within 48 57 b

abbrev pub is_letter_or_digit : ℕ → Bool
is_letter_or_digit b = is_letter b || is_digit b

abbrev pub is_hexadecimal : ℕ → Bool
is_hexadecimal b = is_digit b || is_within 65 70 b || is_within 97 102 b

-- the value of a hexadecimal digit
abbrev pub hexadecimal_value : ℕ → ℕ
hexadecimal_value b =
    if is_digit b then b - 48
    else (if is_within 65 70 b then b - 55 else (if is_within 97 102 b then b - 87 else 0))

-- visible or a space, and no quotation mark
abbrev pub is_text_byte : ℕ → Bool
is_text_byte b = is_within 32 126 b && not (b == 34)

-- visible or a space, and no apostrophe
abbrev pub is_quoted_byte : ℕ → Bool
is_quoted_byte b = is_within 32 126 b && not (b == 39)

-- the list begins with this byte
abbrev pub begins_with : ℕ → List ℕ → Bool
begins_with wanted [] = false
begins_with wanted (b ∷ bs) = b == wanted

-- the number that digits write, behind others that wrote n
abbrev pub number_behind : ℕ → List ℕ → ℕ
number_behind n [] = n
number_behind n (d ∷ ds) = number_behind (n * 10 + (d - 48)) ds

-- the number n below zero, or zero
abbrev pub negated : ℕ → ℤ
negated zero = pos 0
negated (suc n) = negsuc n
