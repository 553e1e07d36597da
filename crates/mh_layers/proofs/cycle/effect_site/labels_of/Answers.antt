use Rattle.mh_layers.specs.Reading.{kept}
use Rattle.mh_layers.proofs.NamesLemmas.{each_item}
use Rattle.mh_layers.proofs.cycle.effect_site.labels_of.Goals as goal

pub label_to-requires : goal.label_to-requires
label_to-requires c = each_item (kept c.args.numbered_service.now) c.args.nodes.now c.loop-node.node-index _ c.loop-node-test.true c.requires
