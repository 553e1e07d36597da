-- What a visible looks like: what it paints into each cell.
use Rattle.std.specs.Prelude.{ℕ, ◌+◌, ◌*◌, ◌==◌, Bool, false, if◌then◌else◌, List, [], Option, Some, None, ℤ, pos, int_lt}
use Rattle.mh_base.specs.declared.area.Area.{Area}
use Rattle.mh_base.specs.declared.colour.Colour.{Colour}
use Rattle.mh_group.specs.declared.attribute.Attribute.{Attribute}
use Rattle.mh_group.specs.declared.attribute.Attribute.TheVariants as attribute
use Rattle.mh_group.specs.declared.class.Class.{Class}
use Rattle.mh_group.specs.declared.class.Class.TheVariants as class
use Rattle.mh_model.specs.declared.picture.drawing.Drawing.{Drawing}
use Rattle.mh_model.specs.declared.picture.line.Line.{Line}
use Rattle.mh_model.specs.declared.object.Body.{Body}
use Rattle.mh_model.specs.declared.object.Fixed.{Fixed}
use Rattle.mh_model.specs.declared.object.Object.{Object}
use Rattle.mh_model.specs.Boxes.{covers, column_of, row_of, x_of, y_of, box_back}
use Rattle.mh_model.specs.Drawn.{drawn_over}
use Rattle.mh_model.specs.Layout.{laid, character_at}
use Rattle.mh_model.specs.Property.{held, read, read_of, as_bool, as_pair, as_int, as_colour, as_justification, as_octets, as_value}
use Rattle.mh_group.specs.Table.{is_push_button}

-- what a visible puts into a cell: a colour behind it, and a character with the character's colour
pub record Paint : Type 0 where
  pub back : Option ℕ
  pub mark : Option (ℕ × ℕ)

abbrev pub nothing : Paint
nothing = record { back = None; mark = None }

-- a character with its colour, where there is a character and it has a colour
abbrev pub marked : Option ℕ → Option ℕ → Option (ℕ × ℕ)
marked (Some colour) (Some scalar) = Some (scalar, colour)
marked (Some colour) None = None
marked None scalar = None

-- Each kind of visible in its box.

abbrev pub rectangle_paint : Area → Bool → Option ℕ → Option ℕ → ℕ → Paint
rectangle_paint a has_line line fill c =
    record { back = box_back a has_line line fill (x_of c) (y_of c); mark = None }

-- drawings show in the cells of their box alone
abbrev pub art_paint : Area → Option ℕ → List Drawing → ℕ → Paint
art_paint a fill ds c =
    if covers a (x_of c) (y_of c) then record { back = drawn_over a ds c fill; mark = None } else nothing

abbrev pub text_paint : Area → Option ℕ → Option ℕ → List Line → ℕ → Paint
text_paint a background colour lines c =
    if covers a (x_of c) (y_of c)
    then record { back = background; mark = marked colour (character_at lines a (column_of c) (row_of c)) }
    else nothing

-- What an object has for this.

-- the colour as a number of 24 bits; transparency 255 paints nothing, every other one paints opaquely
abbrev pub paint_of : Colour → Option ℕ
paint_of c = if c.transparency == 255 then None else Some (c.red * 65536 + c.green * 256 + c.blue)

-- the default colours
abbrev pub opaque_black : Colour
opaque_black = record { red = 0; green = 0; blue = 0; transparency = 0 }

abbrev pub opaque_white : Colour
opaque_white = record { red = 255; green = 255; blue = 255; transparency = 0 }

abbrev pub transparent_black : Colour
transparent_black = record { red = 0; green = 0; blue = 0; transparency = 255 }

abbrev pub area_by : ℤ × ℤ → ℤ × ℤ → Area
area_by size position = record { x = position.0; y = position.1; width = size.0; height = size.1 }

abbrev pub area_of : Object → Area
area_of o = area_by (as_pair (read attribute.OrigBoxSize o)) (as_pair (read attribute.OrigPosition o))

abbrev pub has_line : Object → Bool
has_line o = int_lt (pos 0) (as_int (pos 1) (read attribute.OrigLineWidth o))

abbrev pub colour_of : Attribute → Colour → Object → Option ℕ
colour_of a default o = paint_of (as_colour default (read a o))

abbrev pub line_colour_of : Object → Option ℕ
line_colour_of o = colour_of attribute.OrigRefLineColour opaque_black o

abbrev pub fill_of : Object → Option ℕ
fill_of o = colour_of attribute.OrigRefFillColour transparent_black o

-- behind drawings lies the fill colour that is written; a later one is for later drawings
abbrev pub ground_of : Object → Option ℕ
ground_of o = paint_of (as_colour transparent_black (held attribute.OrigRefFillColour o.fixed.properties))

-- the lines of a text in the box of the object
abbrev pub lines_of_text : Option (List ℕ) → Object → List Line
lines_of_text None o = []
lines_of_text (Some text) o =
    laid text (area_of o) (as_bool false (read attribute.TextWrapping o))
    (as_justification (read attribute.HJustification o))

abbrev pub label_of : Fixed → Body → List ℕ
label_of p b = as_octets (as_value (read_of attribute.OrigLabel p b))

-- a push button shows its label
abbrev pub shown_text : Object → Option (List ℕ)
shown_text o = if is_push_button o.fixed.class then Some (label_of o.fixed o.body) else o.body.text

abbrev pub lines_of : Object → List Line
lines_of o = lines_of_text (shown_text o) o

abbrev pub paint_by : Class → Object → ℕ → Paint
paint_by class.Rectangle o c = rectangle_paint (area_of o) (has_line o) (line_colour_of o) (fill_of o) c
paint_by class.DynamicLineArt o c = art_paint (area_of o) (ground_of o) o.body.drawings c
paint_by _ o c =
    text_paint (area_of o) (colour_of attribute.BackgroundColour transparent_black o)
    (colour_of attribute.TextColour opaque_white o) (lines_of o) c

-- what a visible paints into the cell with this number
abbrev pub paint_in : Object → ℕ → Paint
paint_in o c = paint_by o.fixed.class o c
