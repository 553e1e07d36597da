-- What a script is to lead to.
use Rattle.std.specs.Prelude.{ℕ, ◌*◌, ◌||◌, nat_eq, Bool, false, not, List, [], ◌∷◌, drop, take, Option, Some, None}
use Rattle.std.specs.List.{list_any, range_with_len, starts_with}
use Rattle.std.specs.Str.{bytes_eq}
use Rattle.mh_model.specs.Picture.{shown}
use Rattle.mh_model.specs.Planes.{Planes}
use Rattle.mh_model.specs.State.{State}
use Rattle.mh_model.specs.Step.{is_empty, is_settled}
use Rattle.mh_find.specs.declared.goal.Goal.{Goal}
use Rattle.mh_find.specs.declared.goal.Goal.TheVariants as goal

-- A text in a row of the picture: its characters stand one behind the other somewhere in it.

abbrev pub begins : List ℕ → List ℕ → Bool
begins text row = starts_with nat_eq row text

unfoldable pub holds : List ℕ → List ℕ → Bool
holds text [] = is_empty text
holds text (c ∷ cs) = begins text (c ∷ cs) || holds text cs

unfoldable pub row_of : Planes → ℕ → List ℕ
row_of p row = take 60 (drop (row * 60) p.scalars)

abbrev pub is_in_row : List ℕ → Planes → ℕ → Bool
is_in_row text p row = holds text (row_of p row)

unfoldable pub shows : List ℕ → Planes → Bool
shows text p = list_any (is_in_row text p) (range_with_len 0 36)

abbrev pub is_scene : List ℕ → Option (List ℕ) → Bool
is_scene g (Some h) = bytes_eq g h
is_scene g None = false

-- WHAT THE SCRIPT IS TO LEAD TO HOLDS OF THE STATE: a fault was met, something is still to be done, it is in the scene, or its
-- picture shows the text
abbrev pub is_led : Goal → State → Bool
is_led goal.Fault s = not (is_empty s.faults)
is_led goal.More s = not (is_settled s)
is_led (goal.Scene g) s = is_scene g s.scene
is_led (goal.Shown text) s = shows text.items (shown s)
