-- What goes to a terminal is a list of pieces of drawing.
use Rattle.std.specs.Prelude.{◌≡◌, ℕ, ◌+◌, ◌*◌, Bool, true, false, not, if◌then◌else◌, List, [], ◌∷◌, ◌++◌, map, take, Option, Some, None, slice_index, refl}
use Rattle.std.specs.List.{flat_map, list_all, range_with_len}
use Rattle.std.specs.Str.{bytes_eq}
use Rattle.std.proofs.Common.{ap, ◌∙◌, sym, append-nil}
use Rattle.std.proofs.lemmas.Bool.{and_from}
use Rattle.std.proofs.lemmas.Grind.{flat_map-append}
use Rattle.std.proofs.lemmas.List.Folds.{flat_map-map, list_all-append}
use Rattle.bstr.specs.Utf8.{lossy_chars}
use Rattle.mh_model.specs.Planes.{Planes}
use Rattle.mh_display.specs.Rows.{same_row}
use Rattle.mh_told.specs.Printing.{character}
use Rattle.mh_terminal.specs.Frames.{is_order, harmless, plain, turn, turns, colour_orders, row_end, shown_cell, shown_row}
use Rattle.mh_live.specs.Drawing.{Piece, Move, ClearScreen, ClearLine, Colour, Background, UsualColours, LineEnd, Characters, spelling, is_harmless, IsDrawing, ScreensAreDrawings}
use Rattle.mh_live.specs.Screen.{Screen, all_rows, drawn, changed_at, changed_line, changed_lines, changed_row, changed_rows, changes, drawn_line, drawn_row, end_text, fitting, line_at, move_to, row_where, small_text, wanted_text, whole}

-- Pieces, one behind the other.

nothing : IsDrawing []
nothing = record { pieces = []; spelled = refl; harmless = refl }

drawing_append : (xs ys : List ℕ) → IsDrawing xs → IsDrawing ys → IsDrawing (xs ++ ys)
drawing_append xs ys front behind = record {
  pieces = front.pieces ++ behind.pieces;
  spelled =
      ap (λ (zs : List ℕ). zs ++ ys) front.spelled ∙ ap (λ (zs : List ℕ). flat_map spelling front.pieces ++ zs) behind.spelled
      ∙ sym (flat_map-append spelling front.pieces behind.pieces);
  harmless = list_all-append is_harmless front.pieces behind.pieces ∙ and_from _ _ front.harmless behind.harmless;
}

-- the same, as an operator that groups as `++` does
infixl 65 ◌⌢◌
◌⌢◌ : {xs ys : List ℕ} → IsDrawing xs → IsDrawing ys → IsDrawing (xs ++ ys)
◌⌢◌ {xs} {ys} front behind = drawing_append xs ys front behind

one : (p : Piece) → is_harmless p ≡ true → IsDrawing (spelling p)
one p is = record { pieces = p ∷ []; spelled = sym (append-nil (spelling p)); harmless = and_from _ _ is refl }

-- what is put for each number of a list
each_drawn : (f : ℕ → List ℕ) → ((n : ℕ) → IsDrawing (f n)) → (ns : List ℕ) → IsDrawing (flat_map f ns)
each_drawn f is [] = nothing
each_drawn f is (n ∷ ns) = drawing_append (f n) (flat_map f ns) (is n) (each_drawn f is ns)

-- Characters.

harmless_is_no_order : (c : ℕ) → not (is_order (harmless c)) ≡ true
harmless_is_no_order c = by (is_order c) refl
  where
    by : (b : Bool) → is_order c ≡ b → not (is_order (if b then 65533 else c)) ≡ true
    by true is = refl
    by false is = ap not is

all_no_orders : (cs : List ℕ) → list_all (λ c. not (is_order c)) (map harmless cs) ≡ true
all_no_orders [] = refl
all_no_orders (c ∷ cs) = and_from _ _ (harmless_is_no_order c) (all_no_orders cs)

plain_drawn : (bs : List ℕ) → IsDrawing (plain bs)
plain_drawn bs = record {
  pieces = Characters (map harmless (lossy_chars bs)) ∷ [];
  spelled = sym (flat_map-map character harmless (lossy_chars bs)) ∙ sym (append-nil (flat_map character (map harmless (lossy_chars bs))));
  harmless = and_from _ _ (all_no_orders (lossy_chars bs)) refl;
}

character_drawn : (c : ℕ) → IsDrawing (character (harmless c))
character_drawn c = record {
  pieces = Characters (harmless c ∷ []) ∷ [];
  spelled = sym (append-nil (character (harmless c))) ∙ sym (append-nil (character (harmless c) ++ []));
  harmless = and_from _ _ (and_from _ _ (harmless_is_no_order c) refl) refl;
}

-- Orders.

moved : (n : ℕ) → IsDrawing (move_to n)
moved n = one (Move n) refl

colours_drawn : (fore back : ℕ) → IsDrawing (colour_orders fore back)
unfolding colour_orders
colours_drawn fore back = one (Colour fore) refl ⌢ one (Background back) refl

turn_drawn : (p : Planes) (row column : ℕ) → IsDrawing (turn false p row column)
unfolding turn
turn_drawn p row column = by (turns p row column)
  where
    by : (b : Bool) → IsDrawing (if b then colour_orders (slice_index p.fores (row * 60 + column)) (slice_index p.backs (row * 60 + column)) else [])
    by true = colours_drawn _ _
    by false = nothing

-- Rows and lines.

cell_drawn : (p : Planes) (row column : ℕ) → IsDrawing (shown_cell false p row column)
unfolding shown_cell
cell_drawn p row column = turn_drawn p row column ⌢ character_drawn (slice_index p.scalars (row * 60 + column))

end_drawn : IsDrawing (row_end false)
unfolding row_end
end_drawn = one UsualColours refl ⌢ one LineEnd refl

row_drawn : (p : Planes) (row : ℕ) → IsDrawing (drawn_row p row)
unfolding drawn_row shown_row
row_drawn p row = moved (row + 1) ⌢ (each_drawn (shown_cell false p row) (cell_drawn p row) (range_with_len 0 60) ⌢ end_drawn)

rows_drawn : (p : Planes) → IsDrawing (all_rows p)
unfolding all_rows
rows_drawn p = each_drawn (drawn_row p) (row_drawn p) (range_with_len 0 36)

where_drawn : (b : Bool) (p : Planes) (row : ℕ) → IsDrawing (row_where b p row)
where_drawn true p row = row_drawn p row
where_drawn false p row = nothing

changed_row_drawn : (before after : Planes) (row : ℕ) → IsDrawing (changed_row before after row)
unfolding changed_row
changed_row_drawn before after row = where_drawn (not (same_row before after row)) after row

changed_rows_drawn : (before after : Planes) → IsDrawing (changed_rows before after)
unfolding changed_rows
changed_rows_drawn before after =
    each_drawn (changed_row before after) (changed_row_drawn before after) (range_with_len 0 36)

fitting_drawn : (line : List ℕ) (width : ℕ) → IsDrawing (fitting line width)
unfolding fitting
fitting_drawn line width = plain_drawn (take width line)

line_drawn : (columns : ℕ) (line : List ℕ) (place : ℕ) → IsDrawing (drawn_line columns line place)
unfolding drawn_line
line_drawn columns line place = moved (37 + place) ⌢ one ClearLine refl ⌢ fitting_drawn line columns

changed_line_drawn : (columns : ℕ) (before after : List ℕ) (place : ℕ) → IsDrawing (changed_line columns before after place)
unfolding changed_line
changed_line_drawn columns before after place = by (bytes_eq before after)
  where
    by : (b : Bool) → IsDrawing (if b then [] else drawn_line columns after place)
    by true = nothing
    by false = line_drawn columns after place

lines_drawn : (columns : ℕ) (before after : List (List ℕ)) → IsDrawing (changed_lines columns before after)
unfolding changed_lines
lines_drawn columns before after =
    each_drawn (changed_at columns before after)
    (λ place. changed_line_drawn columns (line_at before place) (line_at after place) place) (range_with_len 0 9)

-- Screens.

whole_drawn : (s : Screen) → IsDrawing (whole s)
unfolding whole
whole_drawn s = one ClearScreen refl ⌢ rows_drawn s.picture ⌢ lines_drawn s.columns [] s.lines

changes_drawn : (before after : Screen) → IsDrawing (changes before after)
unfolding changes
changes_drawn before after = changed_rows_drawn before.picture after.picture ⌢ lines_drawn after.columns before.lines after.lines

screen_drawn : (before : Option Screen) (after : Screen) → IsDrawing (drawn before after)
screen_drawn None after = whole_drawn after
screen_drawn (Some before) after = changes_drawn before after

small_drawn : (rows columns : ℕ) → IsDrawing (small_text rows columns)
unfolding small_text
small_drawn rows columns = one ClearScreen refl ⌢ moved 1 ⌢ fitting_drawn (wanted_text rows columns) columns

left_drawn : IsDrawing end_text
unfolding end_text
left_drawn = moved 46 ⌢ one ClearLine refl

pub all_drawn : ScreensAreDrawings
all_drawn = (screen_drawn, small_drawn, left_drawn)
