use Rattle.std.proofs.Common.{rules, refl}
use Rattle.mh_layers.specs.declared.cycle.Best.{Best}
use Rattle.mh_layers.proofs.WalkLemmas.{tried_found, tried_later}
use Rattle.mh_layers.proofs.cycle.try_node.Goals as goal

pub returns-then-not-comes_first : goal.returns-then-not-comes_first
returns-then-not-comes_first c =
    tried_later c.args.numbered_service.now c.args.node_graph.now.nodes.keys c.args.node_graph.now.graph c.args.node.now c.in_ok-cause.cause c.args.best.now c.in_ok-cause.ensures (search rules)

pub returns-in-Some : goal.returns-in-Some
returns-in-Some c =
    let b : Best = record { node = c.args.node.now; cause = c.in_ok-cause.cause; trail = c.in-Some.trail } in
    tried_found c.args.numbered_service.now c.args.node_graph.now.nodes.keys c.args.node_graph.now.graph c.args.node.now c.node_index-index.result c.in_ok-cause.cause b c.args.best.now c.set.new.best
    c.in_ok-cause.ensures c.node_index-index.ensures (search rules) refl refl (search rules) c.set.ensures
