use Rattle.std.proofs.Common.{◌^◌, ◌-◌, length}
use Rattle.mh_layers.specs.Staging.{AreStagesTo}
use Rattle.mh_layers.proofs.ways.stages.stages_from.Given as goal

abbrev pub invariant-loop-stages : goal.invariant-loop-stages
invariant-loop-stages l = AreStagesTo l.numbered_service l.fn.root l.stages.items l.node

abbrev pub decreases-loop-stages : goal.decreases-loop-stages
decreases-loop-stages l = 2 ^ 64 - length l.stages.items
