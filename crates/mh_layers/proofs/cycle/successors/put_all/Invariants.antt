use Rattle.std.proofs.Common.{◌≡◌, drop}
use Rattle.indexmap.specs.IndexSet.{insert_all}
use Rattle.mh_layers.specs.NumberedNodes.{same_node}
use Rattle.mh_layers.proofs.cycle.successors.put_all.Given as goal

abbrev pub invariant-loop-node : goal.invariant-loop-node
invariant-loop-node l =
    insert_all same_node l.nodes.keys (drop l.node-index l.row) ≡ insert_all same_node l.initial.nodes.keys l.row
