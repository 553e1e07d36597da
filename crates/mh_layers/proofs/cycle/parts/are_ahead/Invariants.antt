use Rattle.std.proofs.Common.{◌≡◌, ◌-◌, length}
use Rattle.std.specs.List.{list_all, range_with_len}
use Rattle.mh_layers.specs.Ranked.{all_ahead, are_ahead}
use Rattle.mh_layers.proofs.cycle.parts.are_ahead.Given as goal

abbrev pub invariant-loop-node : goal.invariant-loop-node
invariant-loop-node l =
    list_all (all_ahead l.parts l.alone l.graph) (range_with_len l.node (length l.graph.nodes.items - l.node))
    ≡ are_ahead l.parts l.alone l.graph
