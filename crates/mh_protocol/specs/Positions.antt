-- Places in a text, as the protocol counts them: the line, from 0 on, and how many units of that stand in front.
use Rattle.std.specs.Prelude.{◌≡◌, ℕ, zero, suc, ◌+◌, ◌-◌, ◌==◌, nat_le, nat_lt, Bool, true, false, ◌&&◌, ◌||◌, not, if◌then◌else◌, List, [], ◌∷◌, drop}
use Rattle.mh_protocol.specs.declared.position.Unit.{Unit}
use Rattle.mh_protocol.specs.declared.position.Unit.TheVariants as unit
use Rattle.mh_protocol.specs.declared.position.Position.{Position}

-- how many units of its line a byte counts: as the first byte of a character it counts those of the character, else none
abbrev pub units : Unit → ℕ → ℕ
units unit.Utf8 b = 1
units unit.Utf16 b = if nat_le 240 b then 2 else (if nat_le 128 b && nat_le b 191 then 0 else 1)

-- a line ends in front of the byte
abbrev pub is_end : ℕ → Bool
is_end b = b == 10 || b == 13

abbrev pub begins_with_feed : List ℕ → Bool
begins_with_feed [] = false
begins_with_feed (b ∷ bs) = b == 10

-- a line ends behind the byte, behind which these stand
abbrev pub ends_line : ℕ → List ℕ → Bool
ends_line b bs = b == 10 || b == 13 && not (begins_with_feed bs)

-- FROM A PLACE TO A NUMBER OF BYTES

-- how many bytes stand in front of the line
abbrev pub line_start : ℕ → List ℕ → ℕ
line_start l [] = 0
line_start l (b ∷ bs) = if l == 0 then 0 else line_start (if ends_line b bs then l - 1 else l) bs + 1

-- how many bytes of a line stand before so many units
abbrev pub reach : Unit → ℕ → List ℕ → ℕ
reach e n [] = 0
reach e n (b ∷ bs) = if is_end b || nat_lt n (units e b) then 0 else reach e (n - units e b) bs + 1

abbrev pub offset_in : Unit → Position → List ℕ → ℕ
offset_in e p bs = let start = line_start p.line bs in start + reach e p.character (drop start bs)

-- AND BACK

abbrev pub at_first : Position
at_first = record { line = 0; character = 0 }

-- the place is so far behind a byte; where it stands in front of that
abbrev pub further : Bool → ℕ → Position → Position
further true n p = record { line = p.line + 1; character = p.character }
further false n p = if p.line == 0 then record { line = 0; character = n + p.character } else p

-- the place behind so many bytes
abbrev pub position_in : Unit → ℕ → List ℕ → Position
position_in e n [] = at_first
position_in e n (b ∷ bs) = if n == 0 then at_first else further (ends_line b bs) (units e b) (position_in e (n - 1) bs)

-- the place behind a byte, in front of which this one is
abbrev pub behind_by : Unit → Position → ℕ → List ℕ → Position
behind_by e p b bs =
    if ends_line b bs then record { line = p.line + 1; character = 0 }
    else record { line = p.line; character = p.character + units e b }

-- THE LAW

-- a character begins there, or nothing stands there
abbrev pub starts : Unit → List ℕ → Bool
starts e [] = true
starts e (b ∷ bs) = nat_lt 0 (units e b)

-- right behind this byte it is between the two bytes with which a line ends; further on it is not
abbrev pub is_split : ℕ → ℕ → List ℕ → Bool
is_split zero b bs = b == 13 && begins_with_feed bs
is_split (suc n) b bs = false

-- behind so many bytes a character begins, or the text ends; and it is not between the two bytes with which a line ends
abbrev pub is_boundary : Unit → ℕ → List ℕ → Bool
is_boundary e zero bs = starts e bs
is_boundary e (suc n) [] = false
is_boundary e (suc n) (b ∷ bs) = is_boundary e n bs && not (is_split n b bs)

-- a place leads back to where it was counted
abbrev pub PlacesLeadBack : Type 0
PlacesLeadBack = (e : Unit) (n : ℕ) (bs : List ℕ) → is_boundary e n bs ≡ true → offset_in e (position_in e n bs) bs ≡ n
