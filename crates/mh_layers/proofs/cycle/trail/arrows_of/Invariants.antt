use Rattle.std.proofs.Common.{take}
use Rattle.mh_layers.specs.Stretches.{AreArrowsOf}
use Rattle.mh_layers.proofs.cycle.trail.arrows_of.Given as goal

abbrev pub invariant-loop-part : goal.invariant-loop-part
invariant-loop-part l = AreArrowsOf l.numbered_service (take l.part-index l.parts) l.arrows.items
