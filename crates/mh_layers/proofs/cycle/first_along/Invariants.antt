use Rattle.std.proofs.Common.{take}
use Rattle.mh_layers.specs.Walk.{AreBest}
use Rattle.mh_layers.proofs.cycle.first_along.Given as goal

abbrev pub invariant-loop-node : goal.invariant-loop-node
invariant-loop-node l = AreBest l.numbered_service l.node_graph.nodes.keys l.node_graph.graph (take l.node-index l.nodes) l.best
