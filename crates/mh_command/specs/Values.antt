-- What was found for the arguments of a subcommand.
use Rattle.std.specs.Prelude.{ℕ, Bool, false, if◌then◌else◌, List, [], Option, codes, unwrap_or, option_map}
use Rattle.std.specs.Option.{option_map_or}
use Rattle.std.specs.Borrow.{Bor}
use Rattle.std.specs.Str.{bytes_eq}
use Rattle.std.specs.Str.Parse.{digits_value, without_leading_plus}
use Rattle.clap.specs.Words.{Row, Text, first_of}
use Rattle.clap.specs.ValueTests.{is_unsigned_in}
use Rattle.mh_command.specs.Arguments.{last_day, usual_day}

-- the value of an argument that is required or has a default
abbrev pub text_of : Text → List Row → Text
text_of id rows = unwrap_or (first_of id rows) []

abbrev pub is_set : Text → List Row → Bool
is_set id rows = option_map_or (λ t. bytes_eq t (codes "true")) (first_of id rows) false

-- the number that a text writes, up to the most; where it writes none, as no argument's rule lets through, another
abbrev pub number_in : ℕ → ℕ → Text → ℕ
number_in most other t = if is_unsigned_in 0 most t then digits_value 10 (without_leading_plus t) else other

-- the day on which a play begins
abbrev pub day_of : List Row → ℕ
day_of rows = number_in last_day usual_day (text_of (codes "mjd") rows)

-- what is named, if anything is
abbrev pub named_in : Option (Bor Text) → Option Text
named_in name = option_map (λ s. s.now) name
