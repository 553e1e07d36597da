-- What is told of a cell: what lies there on the display stack, from the top down, what each paints and what of it is seen, why
-- nothing is painted where nothing is, and what the cell shows.
use Rattle.std.specs.Prelude.{ℕ, ◌==◌, Bool, not, nat_lt, if◌then◌else◌, List, [], ◌∷◌, ◌++◌, codes, reverse, Option, Some, None}
use Rattle.std.specs.List.{list_any, range_with_len}
use Rattle.std.specs.Option.{option_or, unwrap_or}
use Rattle.mh_base.specs.declared.area.Area.{Area}
use Rattle.mh_base.specs.declared.obj_ref.ObjRef.{ObjRef}
use Rattle.mh_group.specs.Words.{class_word}
use Rattle.mh_model.specs.declared.object.Object.{Object}
use Rattle.mh_model.specs.declared.picture.cell.Cell.{Cell}
use Rattle.mh_model.specs.Boxes.{covers, x_of, y_of}
use Rattle.mh_model.specs.Looks.{Paint, area_of, nothing}
use Rattle.mh_model.specs.Picture.{is_seen, paint_at, cell_at}
use Rattle.mh_model.specs.Service.{object_at}
use Rattle.mh_model.specs.State.{State, all}
use Rattle.mh_told.specs.Printing.{hex_colour, quoted}
use Rattle.mh_state.specs.Object.{absent_line}
use Rattle.mh_trace.specs.Words.{ref_text}

-- Looking down: what is settled of a cell by what was met so far, the topmost first.

-- what paints a colour alone has a black space before it
abbrev pub own_mark : Option (ℕ × ℕ) → Option ℕ → Option (ℕ × ℕ)
own_mark (Some m) back = Some m
own_mark None (Some b) = Some (32, 0)
own_mark None None = None

abbrev pub under : Paint → Paint → Paint
under s p = record { back = option_or s.back p.back; mark = option_or s.mark (own_mark p.mark p.back) }

abbrev pub looked_down : List Object → ℕ → Paint → List ObjRef → Paint
looked_down os c s [] = s
looked_down os c s (r ∷ rs) = looked_down os c (under s (paint_at os c r)) rs

-- where nothing is settled there is black
abbrev pub settled_as : Option (ℕ × ℕ) → Option ℕ → Cell
settled_as m b = record { scalar = (unwrap_or m (32, 0)).0; fore = (unwrap_or m (32, 0)).1; back = unwrap_or b 0 }

-- Words for what is painted.

unfoldable pub colour_words : ℕ → List ℕ
colour_words b = codes "#" ++ hex_colour b

unfoldable pub mark_words : ℕ → ℕ → List ℕ
mark_words scalar fore = 34 ∷ quoted scalar ++ 34 ∷ codes " in " ++ colour_words fore

unfoldable pub cell_words : ℕ → ℕ → ℕ → List ℕ
cell_words scalar fore back = mark_words scalar fore ++ codes " on " ++ colour_words back

abbrev pub paint_words : Option (ℕ × ℕ) → Option ℕ → List ℕ
paint_words (Some m) (Some b) = cell_words m.0 m.1 b
paint_words (Some m) None = mark_words m.0 m.1
paint_words None (Some b) = colour_words b
paint_words None None = []

unfoldable pub seen : List ℕ
seen = codes ", seen"

unfoldable pub colour_seen : List ℕ
colour_seen = codes ", of which the colour is seen"

unfoldable pub behind : List ℕ
behind = codes ", behind what lies above"

-- what of it is seen: all, where no other was met before; its colour, where those gave none
abbrev pub seen_words : Option (ℕ × ℕ) → Option ℕ → Option ℕ → List ℕ
seen_words None above back = seen
seen_words (Some m) None (Some b) = colour_seen
seen_words (Some m) None None = behind
seen_words (Some m) (Some a) back = behind

unfoldable pub painted_words : Paint → Paint → List ℕ
painted_words s p = codes " paints " ++ paint_words p.mark p.back ++ seen_words s.mark s.back p.back

-- Words for why nothing is painted.

-- a cell of the screen is covered
abbrev pub covers_cell : Area → ℕ → Bool
covers_cell a c = covers a (x_of c) (y_of c)

unfoldable pub is_off : Area → Bool
is_off a = not (list_any (covers_cell a) (range_with_len 0 2160))

unfoldable pub transparent : List ℕ
transparent = codes " is transparent"

unfoldable pub unavailable : List ℕ
unavailable = codes " is not available"

unfoldable pub stopped : List ℕ
stopped = codes " is stopped"

unfoldable pub off : List ℕ
off = codes " is off the screen"

abbrev pub still_words : Bool → Bool → List ℕ
still_words is_seen running = if is_seen then transparent else (if running then unavailable else stopped)

-- Lines.

unfoldable pub head_words : Object → List ℕ
head_words o = ref_text o.fixed.key ++ codes " " ++ class_word o.fixed.class

unfoldable pub object_line : Object → List ℕ → List ℕ
object_line o words = head_words o ++ words ++ 10 ∷ []

-- one that lies elsewhere on the screen is not told
abbrev pub elsewhere_text : Bool → Object → List ℕ
elsewhere_text is_off o = if is_off then object_line o off else []

abbrev pub unpainted_text : ℕ → Object → List ℕ
unpainted_text c o =
    if covers_cell (area_of o) c then object_line o (still_words (is_seen o) o.body.running)
    else elsewhere_text (is_off (area_of o)) o

-- what is told of an object that paints this, where that was settled above it
abbrev pub present_by : Paint → ℕ → Object → Paint → Option (ℕ × ℕ) → List ℕ
present_by s c o p None = unpainted_text c o
present_by s c o p (Some m) = object_line o (painted_words s p)

abbrev pub place_text : Paint → ℕ → ObjRef → Paint → Option Object → List ℕ
place_text s c r p None = absent_line r
place_text s c r p (Some o) = present_by s c o p (own_mark p.mark p.back)

-- those of a display stack, the topmost first
abbrev pub down_text : List Object → ℕ → Paint → List ObjRef → List ℕ
down_text os c s [] = []
down_text os c s (r ∷ rs) = place_text s c r (paint_at os c r) (object_at r os) ++ down_text os c (under s (paint_at os c r)) rs

unfoldable pub shows : List ℕ
shows = codes "shows "

unfoldable pub would_show : List ℕ
would_show = codes "the screen is locked, else it would show "

-- what the cell shows, or would show if the screen were not locked
abbrev pub shows_words : ℕ → List ℕ
shows_words locks = if locks == 0 then shows else would_show

unfoldable pub shown_line : ℕ → Cell → List ℕ
shown_line locks x = shows_words locks ++ cell_words x.scalar x.fore x.back ++ 10 ∷ []

unfoldable pub outside_words : List ℕ
outside_words = codes "no such cell"

unfoldable pub outside_line : List ℕ
outside_line = outside_words ++ 10 ∷ []

unfoldable pub inside_text : State → ℕ → List ℕ
inside_text s c = down_text (all s.objects) c nothing (reverse s.stack) ++ shown_line s.locks (cell_at (all s.objects) s.stack c)

-- WHAT IS TOLD OF A CELL, whose number is its row times 60 and its column
abbrev pub cell_text : State → ℕ → List ℕ
cell_text s c = if nat_lt c 2160 then inside_text s c else outside_line
