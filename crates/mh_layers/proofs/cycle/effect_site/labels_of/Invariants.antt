use Rattle.std.proofs.Common.{◌≡◌, ◌++◌, drop, map}
use Rattle.mh_layers.specs.EffectSites.{label_in}
use Rattle.mh_layers.specs.NodeGraph.{label_to}
use Rattle.mh_layers.proofs.cycle.effect_site.labels_of.Given as goal

abbrev pub invariant-loop-node : goal.invariant-loop-node
invariant-loop-node l =
    l.labels.items ++ map (label_to (label_in l.numbered_service l.effect_sites.keys)) (drop l.node-index l.nodes)
    ≡ map (label_to (label_in l.numbered_service l.effect_sites.keys)) l.nodes
