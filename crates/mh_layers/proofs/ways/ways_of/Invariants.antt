use Rattle.std.proofs.Common.{take}
use Rattle.mh_layers.specs.Staging.{AreWays}
use Rattle.mh_layers.proofs.ways.ways_of.Given as goal

abbrev pub invariant-loop-kind : goal.invariant-loop-kind
invariant-loop-kind l = AreWays l.numbered_service (take l.kind-index l.kinds) l.ways.items
