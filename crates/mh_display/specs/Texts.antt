-- What texts and drawings paint into the cells of their boxes.
use Rattle.std.specs.Prelude.{ℕ, ◌%◌, Bool, not, ◌&&◌, ◌||◌, List, Option, Some, None, slice_index, ℤ, ◌-ℤ◌}
use Rattle.std.specs.Option.{is_some}
use Rattle.mh_base.specs.declared.area.Area.{Area}
use Rattle.mh_model.specs.declared.picture.drawing.Drawing.{Drawing}
use Rattle.mh_model.specs.declared.picture.line.Line.{Line}
use Rattle.mh_model.specs.Boxes.{column_of, row_of}
use Rattle.mh_model.specs.Drawn.{drawing_back, drawn_over}
use Rattle.mh_model.specs.Layout.{character_at, character_in, unless_space}
use Rattle.mh_model.specs.Looks.{Paint, marked}
use Rattle.mh_model.specs.Step.{is_empty}
use Rattle.mh_display.specs.declared.texts.Ink.{Ink}

-- a text, in a cell that its box covers
abbrev pub letter_paint : Ink → Area → List Line → ℕ → Paint
letter_paint ink a lines c = record { back = ink.background; mark = marked ink.colour (character_at lines a (column_of c) (row_of c)) }

-- a line of it, where its box begins at this column, in the column of a cell
abbrev pub line_paint : Ink → ℤ → Option Line → ℕ → Paint
line_paint ink first line c = record { back = ink.background; mark = marked ink.colour (character_in line (column_of c -ℤ first)) }

-- the characters of a row, one a column
abbrev pub shown_paint : Ink → List ℕ → ℕ → Paint
shown_paint ink shown c = record { back = ink.background; mark = marked ink.colour (unless_space (Some (slice_index shown (c % 60)))) }

-- it has no colour behind its characters, and none for them or no line
abbrev pub is_clear : Ink → List Line → Bool
is_clear ink lines = not (is_some ink.background) && (not (is_some ink.colour) || is_empty lines)

-- one drawing, and several, the last on top
abbrev pub drawing_paint : Area → Drawing → ℕ → Paint
drawing_paint a d c = record { back = drawing_back a d c; mark = None }

abbrev pub drawn_paint : Area → List Drawing → ℕ → Paint
drawn_paint a ds c = record { back = drawn_over a ds c None; mark = None }
