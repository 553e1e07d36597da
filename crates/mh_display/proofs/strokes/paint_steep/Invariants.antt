use Rattle.std.proofs.Common.{◌≤◌}
use Rattle.std.specs.Prelude.{Some}
use Rattle.mh_display.specs.Painting.{IsAbove, marked_at, put}
use Rattle.mh_display.specs.Strokes.{stroke_paint}
use Rattle.mh_display.proofs.strokes.paint_steep.Given as goal

abbrev pub invariant-loop-row : goal.invariant-loop-row
invariant-loop-row l = (l.window.top ≤ l.row) × IsAbove (λ c. put (stroke_paint l.stroke (Some l.colour) c)) l.window (marked_at l.initial.screen) (marked_at l.screen) l.row
