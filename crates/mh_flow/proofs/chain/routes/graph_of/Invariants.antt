use Rattle.std.proofs.Common.{◌≡◌, drop, map}
use Rattle.mh_flow.specs.Routes.{rows_from, rows_of}
use Rattle.mh_flow.proofs.chain.routes.graph_of.Given as goal

abbrev pub invariant-loop-made : goal.invariant-loop-made
invariant-loop-made l = rows_from l.holders.keys l.action_sites.keys (map (λ row. row.items) l.nodes.items) (drop l.made-index l.moves) ≡ rows_of l.holders.keys l.action_sites.keys l.moves
