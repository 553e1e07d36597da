use Rattle.std.proofs.Common.{take}
use Rattle.mh_layers.specs.Choosing.{AreChosen}
use Rattle.mh_layers.proofs.ways.dearest.dearest_of.Given as goal

abbrev pub invariant-loop-node : goal.invariant-loop-node
invariant-loop-node l = AreChosen l.numbered_service l.laying (take l.node-index l.nodes) l.best
