use Rattle.std.proofs.Common.{◌≡◌, ◌++◌, drop}
use Rattle.mh_layers.specs.Walk.{unlaid}
use Rattle.mh_layers.proofs.cycle.unlaid.Given as goal

abbrev pub invariant-loop-node : goal.invariant-loop-node
invariant-loop-node l = l.left.items ++ unlaid l.laying (drop l.node-index l.nodes) ≡ unlaid l.laying l.nodes
