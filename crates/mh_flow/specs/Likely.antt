-- Where an object is likely to stand.
use Rattle.std.specs.Prelude.{ℕ, ◌==◌, Bool, false, List, slice_get}
use Rattle.std.specs.Option.{option_map_or}
use Rattle.mh_model.specs.declared.object.Fixed.{Fixed}

-- the object at this place has the number
abbrev pub has_number : List Fixed → ℕ → ℕ → Bool
has_number ps i n = option_map_or (λ p. p.key.number == n) (slice_get ps i) false
