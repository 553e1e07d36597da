use Rattle.std.proofs.Common.{◌≤◌}
use Rattle.std.specs.Prelude.{Some}
use Rattle.mh_display.specs.Painting.{IsBeside, marked_at, put}
use Rattle.mh_display.specs.Strokes.{stroke_paint}
use Rattle.mh_display.proofs.strokes.paint_flat.Given as goal

abbrev pub invariant-loop-column : goal.invariant-loop-column
invariant-loop-column l = (l.window.left ≤ l.column) × IsBeside (λ c. put (stroke_paint l.stroke (Some l.colour) c)) l.window (marked_at l.initial.screen) (marked_at l.screen) l.column
