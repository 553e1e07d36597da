use Rattle.std.proofs.Common.{◌≡◌, ◌++◌, drop, map}
use Rattle.mh_layers.specs.EffectSites.{arrow_by}
use Rattle.mh_layers.proofs.cycle.node_graph.graph_of.Given as goal

abbrev pub invariant-loop-row : goal.invariant-loop-row
invariant-loop-row l =
    map (λ row. row.items) l.arrows.items ++ map (λ row. map (arrow_by l.nodes.keys l.labels) row.items) (drop l.row-index l.rows)
    ≡ map (λ row. map (arrow_by l.nodes.keys l.labels) row.items) l.rows
