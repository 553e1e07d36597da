-- What is told of where a session stands: its state, an object, and what lies at a cell.
use Rattle.std.specs.Prelude.{◌≡◌, ℕ, ℤ, ◌*◌, ◌⊎◌, pos, Bool, ◌&&◌, nat_lt, if◌then◌else◌, List, [], ◌∷◌, ◌++◌, reverse, codes, Option, Some, None}
use Rattle.std.specs.Bool.{MatchBool}
use Rattle.std.specs.List.{flat_map}
use Rattle.mh_base.specs.Path.{is_path}
use Rattle.mh_base.specs.declared.obj_ref.ObjRef.{ObjRef}
use Rattle.mh_crossing.specs.Answers.{no_memory, no_path, out_of_range}
use Rattle.mh_crossing.specs.Rooms.{HandsOut, IsUnput}
use Rattle.mh_group.specs.Words.{class_word}
use Rattle.mh_model.specs.Boxes.{covers}
use Rattle.mh_model.specs.Looks.{area_of}
use Rattle.mh_model.specs.Picture.{is_seen}
use Rattle.mh_model.specs.Service.{object_at}
use Rattle.mh_model.specs.State.{Objects, State, all}
use Rattle.mh_model.specs.declared.object.Object.{Object}
use Rattle.mh_state.specs.Object.{object_text}
use Rattle.mh_state.specs.State.{state_text}
use Rattle.mh_trace.specs.Words.{ref_text}
use Rattle.redplay_page.specs.Playing.{Playing}

abbrev pub TellsState : Playing → List ℕ → ℕ → Type 0
TellsState s text n = (text ≡ state_text s.tracing.state) × (n ≡ 0)

-- the state stands in the room, and nothing changes
abbrev pub IsStateTold : Playing → List ℕ → List ℕ → ℕ → ℕ → ℕ → Type 0
IsStateTold s before after old new n = HandsOut (TellsState s) before after old new n

abbrev pub TellsObject : Playing → ObjRef → List ℕ → ℕ → Type 0
TellsObject s at text n = (text ≡ object_text (all s.tracing.state.objects) at) × (n ≡ 0)

-- an object, if its group's name is a path
abbrev pub IsObjectTold : List ℕ → ℕ → Playing → List ℕ → List ℕ → ℕ → ℕ → ℕ → Type 0
IsObjectTold group number s before after old new n =
    MatchBool (is_path group) (HandsOut (TellsObject s (record { group = group; number = number })) before after old new n)
    (((n ≡ no_path) ⊎ (n ≡ no_memory)) × IsUnput before after old new)

-- what is told of an object among these
abbrev pub own_text : List Object → Object → List ℕ
own_text os o = object_text os o.fixed.key

-- all objects that are present, one behind the other
abbrev pub objects_text : List Object → List ℕ
objects_text os = flat_map (own_text os) os

abbrev pub TellsObjects : Playing → List ℕ → ℕ → Type 0
TellsObjects s text n = (text ≡ objects_text (all s.tracing.state.objects)) × (n ≡ 0)

-- WHAT LIES AT A CELL

abbrev pub unless_seen : Object → List ℕ
unless_seen o = if is_seen o then [] else codes ", not seen"

unfoldable pub lying_line : Object → List ℕ
lying_line o = ref_text o.fixed.key ++ codes " " ++ class_word o.fixed.class ++ unless_seen o ++ 10 ∷ []

-- an object whose box covers the cell at these units
abbrev pub line_if_covered : ℤ → ℤ → Object → List ℕ
line_if_covered x y o = if covers (area_of o) x y then lying_line o else []

abbrev pub line_if_there : ℤ → ℤ → Option Object → List ℕ
line_if_there x y None = []
line_if_there x y (Some o) = line_if_covered x y o

abbrev pub line_at : Objects → ℤ → ℤ → ObjRef → List ℕ
line_at objects x y at = line_if_there x y (object_at at (all objects))

-- a line each, the top of the display stack first
abbrev pub cell_text : State → ℕ → ℕ → List ℕ
cell_text s row column = flat_map (line_at s.objects (pos (12 * column)) (pos (16 * row))) (reverse s.stack)

abbrev pub TellsCell : Playing → ℕ → ℕ → List ℕ → ℕ → Type 0
TellsCell s row column text n = (text ≡ cell_text s.tracing.state row column) × (n ≡ 0)

-- there is such a cell
abbrev pub has_cell : ℕ → ℕ → Bool
has_cell row column = nat_lt row 36 && nat_lt column 60

-- what lies there, if it is there
abbrev pub IsCellTold : ℕ → ℕ → Playing → List ℕ → List ℕ → ℕ → ℕ → ℕ → Type 0
IsCellTold row column s before after old new n =
    MatchBool (has_cell row column) (HandsOut (TellsCell s row column) before after old new n)
    ((n ≡ out_of_range) × IsUnput before after old new)
