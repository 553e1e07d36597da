-- The keys: their numbers, and which of them a register lets through.
use Rattle.std.specs.Prelude.{Bool, true, false, not, if◌then◌else◌, ℤ, pos, List, [], ◌∷◌}
use Rattle.std.specs.Ordering.{int_eq}
use Rattle.mh_model.specs.declared.key.Key.{Key}
use Rattle.mh_model.specs.declared.key.Key.TheVariants.{Up, Down, Left, Right, Digit0, Digit1, Digit2, Digit3, Digit4, Digit5, Digit6, Digit7, Digit8, Digit9, Select, Cancel, Red, Green, Yellow, Blue, Text}

abbrev pub keys : List Key
keys = Up ∷ Down ∷ Left ∷ Right ∷ Digit0 ∷ Digit1 ∷ Digit2 ∷ Digit3 ∷ Digit4 ∷ Digit5 ∷ Digit6 ∷ Digit7 ∷ Digit8 ∷ Digit9 ∷ Select ∷ Cancel ∷ Red ∷ Green ∷ Yellow ∷ Blue ∷ Text ∷ []

-- the number of a key, which is the data of its event
abbrev pub key_number : Key → ℤ
key_number Up = pos 1
key_number Down = pos 2
key_number Left = pos 3
key_number Right = pos 4
key_number Digit0 = pos 5
key_number Digit1 = pos 6
key_number Digit2 = pos 7
key_number Digit3 = pos 8
key_number Digit4 = pos 9
key_number Digit5 = pos 10
key_number Digit6 = pos 11
key_number Digit7 = pos 12
key_number Digit8 = pos 13
key_number Digit9 = pos 14
key_number Select = pos 15
key_number Cancel = pos 16
key_number Red = pos 100
key_number Green = pos 101
key_number Yellow = pos 102
key_number Blue = pos 103
key_number Text = pos 104

abbrev pub is_digit : Key → Bool
is_digit Up = false
is_digit Down = false
is_digit Left = false
is_digit Right = false
is_digit Digit0 = true
is_digit Digit1 = true
is_digit Digit2 = true
is_digit Digit3 = true
is_digit Digit4 = true
is_digit Digit5 = true
is_digit Digit6 = true
is_digit Digit7 = true
is_digit Digit8 = true
is_digit Digit9 = true
is_digit Select = false
is_digit Cancel = false
is_digit Red = false
is_digit Green = false
is_digit Yellow = false
is_digit Blue = false
is_digit Text = false

-- Cancel, the four colours and Text
abbrev pub is_colour_or_cancel : Key → Bool
is_colour_or_cancel Up = false
is_colour_or_cancel Down = false
is_colour_or_cancel Left = false
is_colour_or_cancel Right = false
is_colour_or_cancel Digit0 = false
is_colour_or_cancel Digit1 = false
is_colour_or_cancel Digit2 = false
is_colour_or_cancel Digit3 = false
is_colour_or_cancel Digit4 = false
is_colour_or_cancel Digit5 = false
is_colour_or_cancel Digit6 = false
is_colour_or_cancel Digit7 = false
is_colour_or_cancel Digit8 = false
is_colour_or_cancel Digit9 = false
is_colour_or_cancel Select = false
is_colour_or_cancel Cancel = true
is_colour_or_cancel Red = true
is_colour_or_cancel Green = true
is_colour_or_cancel Yellow = true
is_colour_or_cancel Blue = true
is_colour_or_cancel Text = true

-- register 3 lets Cancel, the colours and Text through, 5 all but the digits, each other one all
abbrev pub passes : ℤ → Key → Bool
passes register key = if int_eq register (pos 3) then is_colour_or_cancel key else (if int_eq register (pos 5) then not (is_digit key) else true)
