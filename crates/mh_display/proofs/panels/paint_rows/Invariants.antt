use Rattle.std.proofs.Common.{◌≤◌}
use Rattle.mh_display.specs.Painting.{IsAbove, marked_at, put}
use Rattle.mh_display.specs.Panels.{inner_paint}
use Rattle.mh_display.proofs.panels.paint_rows.Given as goal

abbrev pub invariant-loop-row : goal.invariant-loop-row
invariant-loop-row l = (l.window.top ≤ l.row) × IsAbove (λ c. put (inner_paint l.panel c)) l.window (marked_at l.initial.screen) (marked_at l.screen) l.row
