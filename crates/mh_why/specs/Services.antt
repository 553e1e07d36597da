-- What is shown of a group with which a service cannot be made, by the number that is told.
use Rattle.std.specs.Prelude.{ℕ, ◌∷◌, Bool, true, false, not, nat_eq, if◌then◌else◌, List, [], ◌++◌, codes, Option, Some, None}
use Rattle.std.specs.List.{find, list_any}
use Rattle.std.specs.Option.{option_map_or}
use Rattle.std.specs.Str.{bytes_eq}
use Rattle.mh_base.specs.Path.{is_path, led_to}
use Rattle.mh_text.specs.Landmarks.{Landmark, Sight, Class, Number, Name, landmarks}
use Rattle.mh_why.specs.Sources.{Source, in_source, shown_landmark}

-- the number of an ingredient that is one of those before it

abbrev pub repeats : List ℕ → Sight → Bool
repeats seen (Number n) = list_any (nat_eq n) seen
repeats seen _ = false

abbrev pub numbers : Sight → List ℕ
numbers (Number n) = n ∷ []
numbers _ = []

abbrev pub double_from : List ℕ → List Landmark → Option Landmark
double_from seen [] = None
double_from seen (m ∷ ms) = if repeats seen m.sight then Some m else double_from (seen ++ numbers m.sight) ms

-- the class of the group
abbrev pub is_class : Sight → Bool
is_class Class = true
is_class _ = false

abbrev pub class_in : List Landmark → Option Landmark
class_in ms = find (λ (m : Landmark). is_class m.sight) ms

-- the first name that leads to no path
abbrev pub leads_astray : List ℕ → Sight → Bool
leads_astray from (Name name) = not (is_path (led_to from name))
leads_astray from _ = false

abbrev pub astray_in : List ℕ → List Landmark → Option Landmark
astray_in from ms = find (λ (m : Landmark). leads_astray from m.sight) ms

-- what the number leads to: 32 to the number that stands there twice, 33, 34 and 37 to the class, 35 to the name
abbrev pub landmark_for : List ℕ → List ℕ → List Landmark → Option Landmark
landmark_for number from ms =
    if bytes_eq number (codes "32") then double_from [] ms
    else (if bytes_eq number (codes "33") then class_in ms
    else (if bytes_eq number (codes "34") then class_in ms
    else (if bytes_eq number (codes "35") then astray_in from ms
    else (if bytes_eq number (codes "37") then class_in ms else None))))

abbrev pub shown_for : List ℕ → Source → List ℕ
shown_for number s = option_map_or (shown_landmark s) (landmark_for number s.name (landmarks s.text)) []

unfoldable pub shown_service : List Source → List ℕ → List ℕ → List ℕ
shown_service ss number group = in_source (shown_for number) ss group
