use Rattle.mh_layers.proofs.LayeredLemmas.{counted_kept}
use Rattle.mh_layers.proofs.TrailLemmas.{arrows_found, steps_found}
use Rattle.mh_layers.proofs.WalkLemmas.{left_effects, left_kept, none_of}
use Rattle.mh_layers.proofs.cycle.cycle_in.Goals as goal

pub node_graph_of-requires-clause-counted : goal.node_graph_of-requires-clause-counted
node_graph_of-requires-clause-counted c = counted_kept c.args.numbered_service.now c.requires.reading

pub node_graph_of-requires-clause-kept : goal.node_graph_of-requires-clause-kept
node_graph_of-requires-clause-kept c =
    left_kept c.args.numbered_service.now c.requires.reading c.args.laying.now c.args.nodes.now c.in_ok-left.left.items c.as_slice.result.now c.requires.all c.in_ok-left.ensures c.as_slice.ensures.value

pub returns-in-None-clause-none : goal.returns-in-None-clause-none
returns-in-None-clause-none c =
    none_of c.args.numbered_service.now c.requires.reading c.args.laying.now c.requires.layers c.args.nodes.now c.in_ok-left.left.items c.as_slice.result.now c.as_slice-2.result.now c.in_ok-node_graph.node_graph.nodes.keys c.in_ok-node_graph.node_graph.graph c.in_ok-first_of.field-0
    c.requires.all c.in_ok-left.ensures c.as_slice.ensures.value c.as_slice-2.ensures.value c.in_ok-node_graph.ensures c.in_ok-first_of.ensures c.in-None.is

pub arrows_along-requires-clause-steps : goal.arrows_along-requires-clause-steps
arrows_along-requires-clause-steps c =
    steps_found c.args.numbered_service.now c.requires.reading c.args.laying.now c.args.nodes.now c.in_ok-left.left.items c.as_slice.result.now c.as_slice-2.result.now c.in_ok-node_graph.node_graph.nodes.keys c.in_ok-node_graph.node_graph.graph c.in_ok-first_of.field-0 c.in-Some.best c.as_slice-trail.result.now
    c.requires.all c.in_ok-left.ensures c.as_slice.ensures.value c.as_slice-2.ensures.value c.in_ok-node_graph.ensures c.in_ok-first_of.ensures c.in-Some.is c.as_slice-trail.ensures.value

pub returns-clause-some : goal.returns-clause-some
returns-clause-some c =
    arrows_found c.args.numbered_service.now c.requires.reading c.args.laying.now c.requires.layers c.args.nodes.now c.in_ok-left.left.items c.as_slice.result.now c.as_slice-2.result.now c.in_ok-node_graph.node_graph.nodes.keys c.in_ok-node_graph.node_graph.graph c.in_ok-first_of.field-0 c.in-Some.best c.as_slice-trail.result.now c.in_ok-arrows-in-Some.arrows.items
    c.requires.all c.in_ok-left.ensures c.as_slice.ensures.value c.as_slice-2.ensures.value c.in_ok-node_graph.ensures c.in_ok-first_of.ensures c.in-Some.is c.as_slice-trail.ensures.value c.in_ok-arrows-in-Some.ensures

pub first_of-requires : goal.first_of-requires
first_of-requires c =
    left_effects c.args.numbered_service.now c.requires.reading c.args.laying.now c.args.nodes.now c.in_ok-left.left.items c.as_slice-2.result.now c.requires.all c.in_ok-left.ensures c.as_slice-2.ensures.value
