-- What stands in a message, by a path of names.
use Rattle.std.specs.Prelude.{ℕ, Bool, false, List, Option, codes, option_and_then, option_map, unwrap_or}
use Rattle.serde_json.specs.Data.{Data}
use Rattle.serde_json.specs.Find.{as_bool, as_number, as_str, as_u64, pointer}
use Rattle.mh_protocol.specs.declared.edit.Range.{Range}
use Rattle.mh_protocol.specs.declared.position.Position.{Position}

abbrev pub text_at : List ℕ → Data → Option (List ℕ)
text_at path d = option_and_then as_str (pointer path d)

abbrev pub is_set : List ℕ → Data → Bool
is_set path d = unwrap_or (option_and_then as_bool (pointer path d)) false

abbrev pub number_at : List ℕ → Data → Option ℕ
number_at path d = option_and_then as_u64 (option_and_then as_number (pointer path d))

-- the place that is written
unfoldable pub position_of : Data → Option Position
position_of d =
    option_and_then (λ (line : ℕ). option_map (λ (character : ℕ). record { line = line; character = character })
    (number_at (codes "/character") d)) (number_at (codes "/line") d)

-- the range that is written
unfoldable pub range_of : Data → Option Range
range_of d =
    option_and_then (λ (start : Position). option_map (λ (end : Position). record { start = start; end = end })
    (option_and_then position_of (pointer (codes "/end") d))) (option_and_then position_of (pointer (codes "/start") d))
