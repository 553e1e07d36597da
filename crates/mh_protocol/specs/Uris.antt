-- Bytes that are escaped in a text, and read from it.
use Rattle.std.specs.Prelude.{ℕ, ◌+◌, ◌-◌, ◌*◌, ◌/◌, ◌%◌, ◌==◌, nat_le, nat_lt, Bool, ◌&&◌, ◌||◌, if◌then◌else◌, List, [], ◌∷◌, ◌++◌, Option, Some, None, option_to_list}
use Rattle.std.specs.List.{flat_map}
use Rattle.mh_protocol.specs.declared.uri.Awaited.{Awaited}
use Rattle.mh_protocol.specs.declared.uri.Awaited.TheVariants as awaited

abbrev pub is_within : ℕ → ℕ → ℕ → Bool
is_within low high b = nat_le low b && nat_le b high

-- READ

abbrev pub digit_of : ℕ → ℕ
digit_of b = if is_within 48 57 b then b - 48 else (if is_within 65 70 b then b - 55 else (if is_within 97 102 b then b - 87 else 0))

abbrev pub joined : ℕ → ℕ → ℕ
joined a b = (a % 16) * 16 + b % 16

abbrev pub whole_byte : Awaited → ℕ → Option ℕ
whole_byte awaited.Nothing b = if b == 37 then None else Some b
whole_byte awaited.Both b = None
whole_byte (awaited.Second a) b = Some (joined a (digit_of b))

abbrev pub awaited_behind : Awaited → ℕ → Awaited
awaited_behind awaited.Nothing b = if b == 37 then awaited.Both else awaited.Nothing
awaited_behind awaited.Both b = awaited.Second (digit_of b)
awaited_behind (awaited.Second a) b = awaited.Nothing

abbrev pub unescaped_behind : Awaited → List ℕ → List ℕ
unescaped_behind a [] = []
unescaped_behind a (b ∷ bs) = option_to_list (whole_byte a b) ++ unescaped_behind (awaited_behind a b) bs

-- the bytes that a text stands for
abbrev pub unescaped : List ℕ → List ℕ
unescaped bs = unescaped_behind awaited.Nothing bs

-- WRITTEN

abbrev pub is_plain : ℕ → Bool
is_plain b = b == 45 || b == 46 || b == 47 || is_within 48 57 b || is_within 65 90 b || b == 95 || is_within 97 122 b || b == 126

abbrev pub digit : ℕ → ℕ
digit n = if nat_lt n 10 then n + 48 else n + 55

unfoldable pub escape : ℕ → List ℕ
escape b = if is_plain b then b ∷ [] else 37 ∷ digit (b / 16) ∷ digit (b % 16) ∷ []

-- the text that stands for these bytes
abbrev pub escaped : List ℕ → List ℕ
escaped bs = flat_map escape bs
