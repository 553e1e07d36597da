use Rattle.std.proofs.Common.{◌≡◌, ◌≤◌, drop}
use Rattle.std.specs.Prelude.{pos, ◌-ℤ◌}
use Rattle.mh_model.specs.Boxes.{first_row, or_zero}
use Rattle.mh_display.specs.Painting.{IsAbove, marked_at, put}
use Rattle.mh_display.specs.Texts.{letter_paint}
use Rattle.mh_display.proofs.texts.paint_rows.Given as goal

abbrev pub invariant-loop-row : goal.invariant-loop-row
invariant-loop-row l = record {
  low : l.window.top ≤ l.row;
  painted : IsAbove (λ c. put (letter_paint l.ink l.area l.fn.lines c)) l.window (marked_at l.initial.screen) (marked_at l.screen) l.row;
  lines : l.lines ≡ drop (or_zero (pos l.row -ℤ first_row l.area)) l.fn.lines;
}
