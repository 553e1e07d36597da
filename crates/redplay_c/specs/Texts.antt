-- What the numbers mean that calls answer, as the tables of the code have it.
use Rattle.std.specs.Prelude.{◌≡◌, ℕ, ◌==◌, List, map, Option, Some, None, MatchOption, slice_get}
use Rattle.std.specs.List.{position}
use Rattle.redplay_c.specs.declared.texts.TheConstants as table
use Rattle.redplay_c.specs.Answers.{good, out_of_range}
use Rattle.redplay_c.specs.Verdicts.{IsPut, IsUnput}

unfoldable pub numbers : List ℕ
numbers = table.NUMBERS

unfoldable pub texts : List (List ℕ)
texts = map (λ text. text.now) table.TEXTS

abbrev text_for : Option ℕ → Option (List ℕ)
text_for None = None
text_for (Some at) = slice_get texts at

-- what a number means: the text at the place at which the number stands; nothing where it stands nowhere
abbrev pub text_of : ℕ → Option (List ℕ)
text_of number = text_for (position (λ m. m == number) numbers)

-- the text of the number stands in the room, if it has one
abbrev pub IsExplained : ℕ → List ℕ → List ℕ → ℕ → ℕ → ℕ → Type 0
IsExplained number before after old new n =
    MatchOption (text_of number) ((n ≡ out_of_range) × IsUnput before after old new) (λ text. (n ≡ good) × IsPut text before after new)
