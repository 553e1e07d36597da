use Rattle.std.proofs.Common.{◌≡◌, ◌++◌, None, drop}
use Rattle.mh_layers.specs.Stretches.{stretches}
use Rattle.mh_layers.proofs.cycle.trail.stretches_of.Given as goal

abbrev pub invariant-loop-node : goal.invariant-loop-node
invariant-loop-node l =
    l.parts.items ++ stretches l.from l.first (drop l.node-index l.nodes) ≡ stretches l.fn.from None l.nodes
