use Rattle.std.proofs.Common.{◌≡◌, ◌++◌, drop, map}
use Rattle.mh_layers.specs.EffectSites.{arrow_by}
use Rattle.mh_layers.proofs.cycle.node_graph.arrows_to.Given as goal

abbrev pub invariant-loop-node : goal.invariant-loop-node
invariant-loop-node l =
    l.arrows.items ++ map (arrow_by l.nodes.keys l.labels) (drop l.node-index l.row) ≡ map (arrow_by l.nodes.keys l.labels) l.row
