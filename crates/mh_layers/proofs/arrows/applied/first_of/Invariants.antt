use Rattle.std.proofs.Common.{take}
use Rattle.mh_layers.specs.Applied.{NoneCounts}
use Rattle.mh_layers.proofs.arrows.applied.first_of.Given as goal

abbrev pub invariant-loop-at : goal.invariant-loop-at
invariant-loop-at l = NoneCounts l.here.reading l.here.config l.act (take l.at-index l.objects) l.node
