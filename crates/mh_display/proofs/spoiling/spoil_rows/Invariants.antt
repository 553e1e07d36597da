use Rattle.std.proofs.Common.{◌≤◌, true}
use Rattle.mh_display.specs.Painting.{IsAbove}
use Rattle.mh_display.specs.Surface.{is_in}
use Rattle.mh_display.proofs.spoiling.spoil_rows.Given as goal

abbrev pub invariant-loop-row : goal.invariant-loop-row
invariant-loop-row l = (l.window.top ≤ l.row) × IsAbove (λ c b. true) l.window (is_in l.initial.marks) (is_in l.marks) l.row
