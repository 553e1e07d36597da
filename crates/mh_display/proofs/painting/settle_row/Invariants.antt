use Rattle.std.proofs.Common.{◌<◌, ◌^◌}
use Rattle.mh_display.specs.Bits.{IsLeft}
use Rattle.mh_display.specs.Painting.{marked_at}
use Rattle.mh_display.specs.Painting.{settled}
use Rattle.mh_display.proofs.painting.settle_row.Given as goal

abbrev pub invariant-loop-left : goal.invariant-loop-left
invariant-loop-left l = (l.left < 2 ^ 64) × IsLeft (λ c. settled) (marked_at l.initial.screen) (marked_at l.screen) l.row 0 60 l.left

abbrev pub decreases-loop-left : goal.decreases-loop-left
decreases-loop-left l = l.left
