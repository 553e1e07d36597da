use Rattle.std.proofs.Common.{◌*◌}
use Rattle.mh_display.specs.Painting.{IsBetween, marked_at, settled}
use Rattle.mh_display.proofs.painting.settle.Given as goal

abbrev pub invariant-loop-row : goal.invariant-loop-row
invariant-loop-row l = IsBetween (λ c. settled) (marked_at l.initial.screen) (marked_at l.screen) 0 (60 * l.row)
