use Rattle.std.proofs.Common.{length}
use Rattle.mh_model.specs.State.{all}
use Rattle.mh_display.specs.Painting.{IsDown}
use Rattle.mh_display.proofs.painting.paint_down.Given as goal

abbrev pub invariant-loop-at : goal.invariant-loop-at
invariant-loop-at l = IsDown (all l.objects) l.initial.left l.left l.initial.screen l.screen

abbrev pub decreases-loop-at : goal.decreases-loop-at
decreases-loop-at l = length l.left
