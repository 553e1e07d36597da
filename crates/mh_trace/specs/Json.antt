-- Strings and members of objects in the JavaScript Object Notation. A string has visible ASCII characters alone, so that it can
-- be read as whichever encoding.
use Rattle.std.specs.Prelude.{ℕ, ◌/◌, ◌==◌, ◌&&◌, ◌||◌, nat_le, if◌then◌else◌, List, [], ◌∷◌, ◌++◌, codes, drop}
use Rattle.std.specs.Fmt.{decimal}
use Rattle.std.specs.List.{flat_map}
use Rattle.mh_model.specs.Step.{is_empty}
use Rattle.mh_told.specs.Printing.{hex_digit}

-- an octet in a string: with a backslash, as the character with its number, or as it is

unfoldable pub marked : ℕ → List ℕ
marked b = 92 ∷ [] ++ b ∷ []

unfoldable pub numbered : ℕ → List ℕ
numbered b = 92 ∷ [] ++ codes "u00" ++ hex_digit (b / 16) ∷ [] ++ hex_digit b ∷ []

abbrev pub escaped : ℕ → List ℕ
escaped b = if b == 34 || b == 92 then marked b else (if nat_le 32 b && nat_le b 126 then b ∷ [] else numbered b)

unfoldable pub string_text : List ℕ → List ℕ
string_text bs = 34 ∷ [] ++ flat_map escaped bs ++ 34 ∷ []

unfoldable pub name_text : List ℕ → List ℕ
name_text name = string_text name ++ codes ":"

-- members: the first has no comma in front
unfoldable pub member_text : List ℕ → List ℕ → List ℕ
member_text name bs = name_text name ++ string_text bs

unfoldable pub more_text : List ℕ → List ℕ → List ℕ
more_text name bs = codes "," ++ member_text name bs

unfoldable pub plain_text : List ℕ → List ℕ → List ℕ
plain_text name bs = codes "," ++ name_text name ++ bs

unfoldable pub member_number : List ℕ → ℕ → List ℕ
member_number name n = codes "," ++ name_text name ++ decimal n

abbrev pub behind : List ℕ → ℕ → List ℕ
behind bs n = drop n bs

-- a list, of which each item has a comma in front
unfoldable pub list_text : List ℕ → List ℕ → List ℕ
list_text name items = codes "," ++ name_text name ++ codes "[" ++ behind items 1 ++ codes "]"

abbrev pub list_if : List ℕ → List ℕ → List ℕ
list_if name items = if is_empty items then [] else list_text name items
