-- What is told of a number or a kind: the cause and the mend, as the tables of the code have them.
use Rattle.std.specs.Prelude.{ℕ, zero, suc, Bool, List, [], ◌∷◌, ◌++◌, map, codes, Option}
use Rattle.std.specs.Borrow.{Bor}
use Rattle.std.specs.List.{find}
use Rattle.std.specs.Option.{option_map_or}
use Rattle.std.specs.Str.{bytes_eq}
use Rattle.mh_why.specs.declared.explanation.advice.tables.TheConstants as table
use Rattle.mh_why.specs.declared.explanation.bound.TheConstants as table_of_bounds
use Rattle.mh_why.specs.declared.explanation.circle.TheConstants as table_of_events
use Rattle.mh_why.specs.declared.explanation.object.TheConstants as table_of_objects
use Rattle.mh_why.specs.Wrapping.{paragraph}

-- the word that stands in a line, the cause, and the mend
abbrev pub Row : Type 0
Row = List (List ℕ)

-- the cells of a row, as the code lends them
abbrev pub cells : List (Bor (List ℕ)) → Row
cells row = map (λ (x : Bor (List ℕ)). x.now) row

unfoldable pub refusals : List Row
refusals = map (λ row. map (λ x. x.now) row) table.REFUSALS

unfoldable pub files : List Row
files = map (λ row. map (λ x. x.now) row) table.FILES

unfoldable pub services : List Row
services = map (λ row. map (λ x. x.now) row) table.SERVICES

unfoldable pub tags : List Row
tags = map (λ row. map (λ x. x.now) row) table.TAGS

unfoldable pub faults : List Row
faults = map (λ row. map (λ x. x.now) row) table.FAULTS

unfoldable pub readings : List Row
readings = map (λ row. map (λ x. x.now) row) table.READINGS

-- what stands in front of the object that a refusal names and behind it, by the number of the refusal
unfoldable pub objects : List Row
objects = map (λ row. map (λ x. x.now) row) table_of_objects.OBJECTS

-- what stands in front of the steps of a bound and behind them, by the word of the kind
unfoldable pub bounds : List Row
bounds = map (λ row. map (λ x. x.now) row) table_of_bounds.BOUNDS

-- what stands in front of the object of an event and behind it, and in front of its data, by the type of the event

unfoldable pub events : List Row
events = map (λ row. map (λ x. x.now) row) table_of_events.EVENTS

unfoldable pub event_data : List Row
event_data = map (λ row. map (λ x. x.now) row) table_of_events.EVENT_DATA

abbrev pub cell : Row → ℕ → List ℕ
cell [] n = []
cell (x ∷ xs) zero = x
cell (x ∷ xs) (suc n) = cell xs n

abbrev pub has_word : List ℕ → Row → Bool
has_word word row = bytes_eq (cell row 0) word

abbrev pub row_with : List Row → List ℕ → Option Row
row_with rows word = find (has_word word) rows

unfoldable pub row_text : Row → List ℕ
row_text row = paragraph (codes "  Cause: " ++ cell row 1 ++ codes ".") ++ paragraph (codes "  Mend: " ++ cell row 2 ++ codes ".")

-- what is told of the word, if something is
abbrev pub advice : List Row → List ℕ → List ℕ
advice rows word = option_map_or row_text (row_with rows word) []
