use Rattle.std.proofs.Common.{◌∙◌, ap, map, subst, sym, Vec}
use Rattle.std.specs.declared.alloc.Global.{Global}
use Rattle.mh_layers.specs.declared.numbered_node.NumberedNode.{NumberedNode}
use Rattle.mh_laws.specs.Each.{Each}
use Rattle.mh_layers.specs.Named.{IsEffectKept}
use Rattle.mh_layers.specs.Reading.{kept}
use Rattle.mh_layers.specs.EffectSites.{arrow_by, label_in}
use Rattle.mh_layers.specs.NodeGraph.{label_to}
use Rattle.mh_layers.proofs.GraphLemmas.{firsts_kept, node_graph_made}
use Rattle.mh_layers.proofs.WalkLemmas.{listed_effects}
use Rattle.mh_layers.proofs.cycle.node_graph.node_graph_of.Goals as goal

pub rows_of-requires-clause-kept : goal.rows_of-requires-clause-kept
rows_of-requires-clause-kept c = firsts_kept c.args.numbered_service.now c.args.roots.now c.in_ok-nodes.nodes.keys c.requires.kept c.in_ok-nodes.ensures

pub returns : goal.returns
returns c =
    node_graph_made c.args.numbered_service.now c.args.roots.now c.args.all.now c.in_ok-nodes.nodes.keys c.rows_of.new.nodes.keys c.in_ok-rows.rows.items c.in_ok-effect_sites.effect_sites.keys c.in_ok-labels.labels.items c.in_ok-graph.graph
    c.requires.all c.in_ok-nodes.ensures c.in_ok-rows.ensures.stays c.in_ok-rows.ensures.rows c.in_ok-rows.ensures.all c.len.ensures.unique c.in_ok-effect_sites.ensures
    (c.in_ok-labels.ensures ∙ ap (map (label_to (label_in c.args.numbered_service.now c.in_ok-effect_sites.effect_sites.keys))) c.as_slice.ensures.keys)
    (c.in_ok-graph.ensures ∙ (λ i. map (λ (row : Vec NumberedNode Global). map (arrow_by c.rows_of.new.nodes.keys (c.as_slice-2.ensures.value i)) row.items) (c.as_slice-3.ensures.value i)))

pub effect_sites_of-requires : goal.effect_sites_of-requires
effect_sites_of-requires c = subst (Each (IsEffectKept c.args.numbered_service.now)) (sym c.requires.all) (listed_effects c.args.numbered_service.now c.requires.reading)

pub labels_of-requires : goal.labels_of-requires
labels_of-requires c = subst (Each (kept c.args.numbered_service.now)) (sym c.as_slice.ensures.keys) c.in_ok-rows.ensures.rows.holds
