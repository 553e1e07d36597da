-- How numbers, colours and characters are written in the report.
use Rattle.std.specs.Prelude.{ℕ, ◌+◌, ◌/◌, ◌%◌, ◌==◌, if◌then◌else◌, List, [], ◌∷◌, encode_utf8}
use Rattle.std.specs.Char.{digit_char}
use lib.Utf8.{scalar}

-- a number below 100 in two digits
abbrev pub two_digits : ℕ → List ℕ
two_digits n = (48 + n / 10) ∷ (48 + n % 10) ∷ []

-- the last hexadecimal digit of a number, in lower case
abbrev pub hex_digit : ℕ → ℕ
hex_digit n = digit_char (n % 16)

-- a colour of 24 bits: two digits each for red, green and blue
abbrev pub hex_colour : ℕ → List ℕ
hex_colour c = hex_digit (c / 1048576) ∷ hex_digit (c / 65536) ∷ hex_digit (c / 4096) ∷ hex_digit (c / 256) ∷ hex_digit (c / 16) ∷ hex_digit c ∷ []

-- a character as UTF-8; a number that is none as U+FFFD
abbrev pub character : ℕ → List ℕ
character c = encode_utf8 (if scalar c then c else 65533)

-- a character between quotation marks: the mark itself and the backslash get a backslash
abbrev pub quoted : ℕ → List ℕ
quoted c = if c == 34 then 92 ∷ 34 ∷ [] else (if c == 92 then 92 ∷ 92 ∷ [] else character c)

-- the two digits of a byte
abbrev pub hex_pair : ℕ → List ℕ
hex_pair n = hex_digit (n / 16) ∷ hex_digit n ∷ []
