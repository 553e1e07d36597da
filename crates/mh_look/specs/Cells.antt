-- The cells of a row, as its runs are read: each run behind the cells of those in front of it.
use Rattle.std.specs.Prelude.{ℕ, ◌+◌, ◌-◌, ◌≡◌, ◌<◌, ◌≤◌, ◌^◌, true, List, ◌∷◌, ◌++◌, length, map, replicate, Option, Some}
use Rattle.std.specs.List.{list_all}
use Rattle.std.specs.Fmt.{decimal}
use lib.Utf8.{scalar}
use Rattle.mh_model.specs.declared.picture.cell.Cell.{Cell}
use Rattle.mh_told.specs.Frame.{runs}
use Rattle.mh_model.specs.Picture.{black}
use Rattle.mh_told.specs.Printing.{hex_colour}
use Rattle.mh_look.specs.declared.report.run.Place.{Place}
use Rattle.mh_look.specs.Reading.{EndsNumber, IsRow, quoted_text}

-- a character in these colours
abbrev pub coloured : ℕ → ℕ → ℕ → Cell
coloured fore back scalar = record { scalar = scalar; fore = fore; back = back }

-- these cells, and behind them this one until there are so many
abbrev pub filled : List Cell → ℕ → Cell → List Cell
filled cells n c = cells ++ replicate (n - length cells) c

-- the cells up to the end of a run that is printed with these characters, where those in front of it are black
abbrev pub with_run : List Cell → Place → List ℕ → List Cell
with_run cells p cs = filled (filled cells p.first black ++ map (coloured p.fore p.back) cs) (p.last + 1) (coloured p.fore p.back 32)

-- two colours, and a place with them, in front of other bytes
abbrev pub colours_text : ℕ → ℕ → List ℕ → List ℕ
colours_text fore back rest = 32 ∷ (hex_colour fore ++ (47 ∷ (hex_colour back ++ rest)))

abbrev pub place_text : Place → List ℕ → List ℕ
place_text p rest = 32 ∷ (decimal p.first ++ (45 ∷ (decimal p.last ++ colours_text p.fore p.back rest)))

abbrev pub place_length : Place → ℕ
place_length p = (length (decimal p.first) + 1) + (length (decimal p.last) + 1) + 14

-- colours of 24 bits
pub record AreColours (fore back : ℕ) : Type 0 where
  pub front : fore < 16777216
  pub behind : back < 16777216

-- a place behind so many cells of a row
pub record StandsBehind (n : ℕ) (p : Place) : Type 0 where
  pub behind : n ≤ p.first
  pub rising : p.first ≤ p.last
  pub within : p.last < 60
  pub colours : AreColours p.fore p.back

-- characters that fit into a run
pub record FitInto (p : Place) (cs : List ℕ) : Type 0 where
  pub short : length cs ≤ p.last + 1 - p.first
  pub scalars : list_all scalar cs ≡ true

-- What small readers promise: what stands there is found.

-- a number behind this byte
abbrev pub IsMarkedFound : ℕ → List ℕ → Option (ℕ × ℕ) → Type 0
IsMarkedFound mark bytes found = (n : ℕ) → n < 2 ^ 64 → (rest : List ℕ) → EndsNumber rest → bytes ≡ mark ∷ (decimal n ++ rest) → found ≡ Some (n, length (decimal n) + 1)

abbrev pub AreColoursFound : List ℕ → Option (ℕ × ℕ) → Type 0
AreColoursFound bytes found = (fore back : ℕ) → AreColours fore back → (rest : List ℕ) → bytes ≡ colours_text fore back rest → found ≡ Some (fore, back)

abbrev pub IsPlaceFound : List ℕ → Option (Place × ℕ) → Type 0
IsPlaceFound bytes found = (p : Place) → p.first < 2 ^ 64 → p.last < 2 ^ 64 → AreColours p.fore p.back → (rest : List ℕ) → bytes ≡ place_text p rest → found ≡ Some (p, place_length p)

abbrev pub IsPlaceBehindFound : ℕ → List ℕ → Option (Place × ℕ) → Type 0
IsPlaceBehindFound count bytes found = (p : Place) → StandsBehind count p → (rest : List ℕ) → bytes ≡ place_text p rest → found ≡ Some (p, place_length p)

-- a run, whose cells are put behind others
pub record IsRunFound (bytes : List ℕ) (before after : List Cell) (found : Option ℕ) : Type 0 where
  pub count : (p : Place) (cs : List ℕ) → StandsBehind (length before) p → FitInto p cs → (rest : List ℕ) → bytes ≡ place_text p (quoted_text cs ++ rest) → found ≡ Some (place_length p + length (quoted_text cs))
  pub put : (p : Place) (cs : List ℕ) → StandsBehind (length before) p → FitInto p cs → (rest : List ℕ) → bytes ≡ place_text p (quoted_text cs ++ rest) → after ≡ with_run before p cs

-- the cells of a row whose runs stand there
abbrev pub AreCellsFound : List ℕ → Option (List Cell) → Type 0
AreCellsFound bytes found = (cs : List Cell) → IsRow cs → (rest : List ℕ) → bytes ≡ runs cs ++ 10 ∷ rest → found ≡ Some cs
