-- The page that a browser shows: what stands in it, and how what comes from a report is written so that it is text.
use Rattle.std.specs.Prelude.{ℕ, ◌+◌, ◌-◌, ◌*◌, ◌==◌, Bool, true, false, ◌&&◌, ◌||◌, not, if◌then◌else◌, List, [], ◌∷◌, ◌++◌, codes, slice_index}
use Rattle.std.specs.List.{flat_map, range_with_len}
use Rattle.std.specs.Fmt.{decimal}
use Rattle.bstr.specs.Text.{lines_of, without_terminator}
use Rattle.mh_model.specs.Planes.{Planes, blank}
use Rattle.mh_told.specs.Printing.{character, hex_colour}
use Rattle.mh_told.specs.Told.{total_line}
use Rattle.mh_why.specs.Posts.{behind_stop, up_to_stop}
use Rattle.mh_look.specs.declared.report.Part.{Part}
use Rattle.mh_look.specs.declared.report.Part.TheVariants as part
use Rattle.mh_look.specs.Report.{Report}
use Rattle.mh_look.specs.Frames.{differs_at}
use Rattle.mh_terminal.specs.Frames.{harmless, turns}
use Rattle.mh_look.specs.Shown.{line_of, passed}
use Rattle.mh_look.specs.declared.page.outline.TheConstants.{HEAD, FOOT, STYLE, BACKGROUND, ROW_END, FRAME_BEGIN, FRAME_TITLE_END, FRAME_END}

-- Text in a page.

-- a byte that has a meaning in a page stands there by its name
abbrev pub escape : ℕ → List ℕ
escape b =
    if b == 60 then codes "&lt;"
    else (if b == 62 then codes "&gt;"
    else (if b == 38 then codes "&amp;"
    else (if b == 34 then codes "&quot;"
    else (if b == 39 then codes "&#39;" else b ∷ []))))

abbrev pub escaped : List ℕ → List ℕ
escaped bs = flat_map escape bs

-- a byte that neither begins nor ends a tag or a value
abbrev pub is_text : ℕ → Bool
is_text b = not (b == 60) && not (b == 62) && not (b == 34) && not (b == 39)

-- Cells.

-- a cell and the one before it: one of them is changed, and the other is not
abbrev pub either : Bool → Bool → Bool
either a b = if a then not b else b

-- a run begins: at the first cell of a row, where colours change, and where changed cells begin or end
abbrev pub begins_run : Planes → Planes → ℕ → ℕ → Bool
begins_run before after row column =
    turns after row column || either (differs_at before after (row * 60 + column)) (differs_at before after (row * 60 + column - 1))

-- the tag that begins a run in these colours, behind the one that ends the run before
unfoldable pub run_tag : ℕ → Bool → ℕ → ℕ → List ℕ
run_tag column changed fore back =
    (if column == 0 then [] else codes "</span>") ++ codes "<span " ++ (if changed then codes "class=c " else [])
    ++ STYLE.now ++ hex_colour fore ++ BACKGROUND.now ++ hex_colour back ++ codes "\">"

-- the tag of a cell, where a run begins
unfoldable pub cell_tag : Planes → Planes → ℕ → ℕ → List ℕ
cell_tag before after row column =
    if begins_run before after row column then run_tag column (differs_at before after (row * 60 + column)) (slice_index after.fores (row * 60 + column)) (slice_index after.backs (row * 60 + column)) else []

unfoldable pub cell_text : ℕ → List ℕ
cell_text c = escaped (character (harmless c))

unfoldable pub page_cell : Planes → Planes → ℕ → ℕ → List ℕ
page_cell before after row column = cell_tag before after row column ++ cell_text (slice_index after.scalars (row * 60 + column))

unfoldable pub page_row : Planes → Planes → ℕ → List ℕ
page_row before after row = codes "<div>" ++ (flat_map (page_cell before after row) (range_with_len 0 60) ++ ROW_END.now)

unfoldable pub page_rows : Planes → Planes → List ℕ
page_rows before after = flat_map (page_row before after) (range_with_len 0 36)

-- Steps: each has the lines that were told before a frame, and the frame; the last has the lines that are left.

unfoldable pub page_frame : ℕ → Planes → Planes → List ℕ
page_frame k before after = FRAME_BEGIN.now ++ decimal k ++ FRAME_TITLE_END.now ++ page_rows before after ++ FRAME_END.now

unfoldable pub step_part : ℕ → Planes → Part → List ℕ
step_part k before (part.Frame p) = page_frame (k + 1) before p
step_part k before (part.Fault f) = escaped (line_of (part.Fault f))
step_part k before (part.Refused n) = escaped (line_of (part.Refused n))
step_part k before (part.Did n left) = escaped (line_of (part.Did n left))

-- the picture that is shown behind a part
abbrev pub shown_behind : Planes → Part → Planes
shown_behind before (part.Frame p) = p
shown_behind before (part.Fault f) = before
shown_behind before (part.Refused n) = before
shown_behind before (part.Did n left) = before

-- What was posted: the lines of a script stand before what the report tells of them.

unfoldable pub posted_line : List ℕ → List ℕ
posted_line l = codes "&gt; " ++ escaped (without_terminator l) ++ 10 ∷ []

-- the lines up to the next of which the report tells
unfoldable pub posted_lines : List ℕ → List ℕ
posted_lines left = flat_map posted_line (lines_of (up_to_stop left))

-- where faults and refusals were told of them, they stand there already
abbrev pub posted : Bool → List ℕ → List ℕ
posted told left = if told then [] else posted_lines left

abbrev pub left_behind : Bool → List ℕ → List ℕ
left_behind told left = if told then left else behind_stop left

-- more is told of the same lines behind a part
abbrev pub tells_more : Part → Bool
tells_more (part.Fault f) = true
tells_more (part.Refused n) = true
tells_more (part.Did n left) = false
tells_more (part.Frame p) = false

-- the parts, where so much is left of the script
abbrev pub steps_from : ℕ → Planes → Bool → List ℕ → List Part → ℕ → List ℕ
steps_from k before told left [] total = posted told left ++ escaped (total_line total)
steps_from k before told left (p ∷ ps) total =
    posted told left ++ step_part k before p ++ steps_from (passed k p) (shown_behind before p) (tells_more p) (left_behind told left) ps total

-- what every page begins and ends with
unfoldable pub head : List ℕ
head = HEAD.now

unfoldable pub foot : List ℕ
foot = FOOT.now

-- the page of a report, with the lines of the script that was played; without one there are none
unfoldable pub page_of : Report → List ℕ → List ℕ
page_of r script = head ++ steps_from 0 blank false script r.parts r.total ++ foot
