-- The lay-out of a text in its box: its lines, where each begins, and the character that each cell shows.
use Rattle.std.specs.Prelude.{◌≡◌, ℕ, ◌-◌, ◌/◌, ◌==◌, Bool, if◌then◌else◌, List, [], ◌∷◌, ◌++◌, length, take, map, Option, Some, None, slice_get, ℤ, pos, negsuc, ◌-ℤ◌}
use Rattle.std.specs.List.{flat_map}
use Rattle.mh_base.specs.declared.area.Area.{Area}
use Rattle.mh_group.specs.declared.justification.Justification.{Justification}
use Rattle.mh_group.specs.declared.justification.Justification.TheVariants as justification
use Rattle.mh_model.specs.declared.picture.line.Line.{Line}
use Rattle.mh_model.specs.declared.picture.line.Form.{Form}
use Rattle.mh_model.specs.Boxes.{columns_of, rows_of, first_column, first_row}
use Rattle.mh_model.specs.Lines.{paragraphs, lines_of}
use Rattle.mh_model.specs.Scalars.{scalars_of}

-- the column at which a line of n scalars begins among w
abbrev pub begin : Justification → ℕ → ℕ → ℕ
begin justification.Start w n = 0
begin justification.End w n = w - n
begin justification.Centre w n = (w - n) / 2

abbrev pub placed : Form → List ℕ → Line
placed f xs = record { column = begin f.justification f.width (length xs); scalars = xs }

-- the lines of a paragraph: without wrapping one, cut at the width; with wrapping none where there is no column
abbrev pub lines_in_form : Form → List ℕ → List (List ℕ)
lines_in_form f xs =
    if f.wraps then (if f.width == 0 then [] else lines_of f.width xs)
    else take f.width xs ∷ []

-- the lines of the scalars of a text, however many
abbrev pub text_lines : Form → List ℕ → List Line
text_lines f xs = map (placed f) (flat_map (lines_in_form f) (paragraphs xs))

-- the lines of a text in its box
abbrev pub laid : List ℕ → Area → Bool → Justification → List Line
laid bs a wraps j = take (rows_of a) (text_lines (record { width = columns_of a; wraps = wraps; justification = j }) (scalars_of bs))

-- the member at a place that may be negative
abbrev pub member_at : {A : Type 0} → List A → ℤ → Option A
member_at xs (pos n) = slice_get xs n
member_at xs (negsuc n) = None

-- a space paints nothing
abbrev pub unless_space : Option ℕ → Option ℕ
unless_space None = None
unless_space (Some c) = if c == 0x20 then None else Some c

-- the character of a line at this column of the box
abbrev pub character_in : Option Line → ℤ → Option ℕ
character_in None column = None
character_in (Some line) column = unless_space (member_at line.scalars (column -ℤ pos line.column))

-- the character that a text of these lines paints in column i and row j, if it paints one
abbrev pub character_at : List Line → Area → ℤ → ℤ → Option ℕ
character_at lines a i j = character_in (member_at lines (j -ℤ first_row a)) (i -ℤ first_column a)

-- What is said of the parts of the work.

-- the lines of a paragraph in their places
abbrev pub divided : Form → List ℕ → List Line
divided f xs = map (placed f) (lines_in_form f xs)

-- the same where it is wrapped, and there is a column
abbrev pub wrapped : Form → List ℕ → List Line
wrapped f xs = map (placed f) (lines_of f.width xs)

-- as far as there are n rows, more lines are put behind those that were there
abbrev pub Puts : ℕ → List Line → List Line → List Line → Type 0
Puts n before more after = take n after ≡ take n (before ++ more)
