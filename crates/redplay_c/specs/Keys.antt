-- The keys by their numbers.
use Rattle.std.specs.Prelude.{ℕ, pos, List, [], ◌∷◌, Option}
use Rattle.std.specs.List.{find}
use Rattle.std.specs.Ordering.{int_eq}
use Rattle.mh_model.specs.Key.{key_number, keys}
use Rattle.mh_model.specs.declared.key.Key.{Key}
use Rattle.mh_model.specs.declared.key.Key.TheVariants.{Up, Down, Left, Right, Digit0, Digit1, Digit2, Digit3, Digit4, Digit5, Digit6, Digit7, Digit8, Digit9, Select, Cancel, Red, Green, Yellow, Blue, Text}

-- the key with this number, if there is one
abbrev pub key_of : ℕ → Option Key
key_of n = find (λ k. int_eq (key_number k) (pos n)) keys
