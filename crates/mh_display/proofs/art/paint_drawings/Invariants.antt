use Rattle.std.proofs.Common.{◌≤◌, drop, length}
use Rattle.mh_display.specs.Painting.{IsPaintedIn}
use Rattle.mh_display.specs.Texts.{drawn_paint}
use Rattle.mh_display.proofs.art.paint_drawings.Given as goal

-- those from this place on are painted
abbrev pub invariant-loop-left : goal.invariant-loop-left
invariant-loop-left l = (l.left ≤ length l.drawings) × IsPaintedIn (drawn_paint l.area (drop l.left l.drawings)) l.window l.initial.screen l.screen

abbrev pub decreases-loop-left : goal.decreases-loop-left
decreases-loop-left l = l.left
