use Rattle.std.proofs.Common.{◌<◌, ◌^◌}
use Rattle.mh_display.specs.Bits.{IsLeft}
use Rattle.mh_display.specs.Painting.{marked_at}
use Rattle.mh_display.specs.Painting.{put}
use Rattle.mh_display.specs.Texts.{shown_paint}
use Rattle.mh_display.proofs.texts.paint_characters.Given as goal

abbrev pub invariant-loop-left : goal.invariant-loop-left
invariant-loop-left l = (l.left < 2 ^ 64) × IsLeft (λ c. put (shown_paint l.ink l.shown c)) (marked_at l.initial.screen) (marked_at l.screen) l.row l.window.left l.window.right l.left

abbrev pub decreases-loop-left : goal.decreases-loop-left
decreases-loop-left l = l.left
