use Rattle.std.proofs.Common.{◌<◌, ◌^◌}
use Rattle.mh_display.proofs.RowBitLemmas.{AreToSee}
use Rattle.mh_display.proofs.screen.Screen.is_settled_in.Given as goal

abbrev pub invariant-loop-left : goal.invariant-loop-left
invariant-loop-left l = (l.left < 2 ^ 64) × AreToSee l.self l.window l.left

abbrev pub decreases-loop-left : goal.decreases-loop-left
decreases-loop-left l = l.left
