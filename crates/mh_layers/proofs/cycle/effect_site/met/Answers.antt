use Rattle.mh_layers.specs.Named.{IsEffectKept}
use Rattle.mh_layers.proofs.NamesLemmas.{each_item}
use Rattle.mh_layers.proofs.cycle.effect_site.met.Goals as goal

pub put-requires : goal.put-requires
put-requires c = each_item (IsEffectKept c.args.numbered_service.now) c.args.nodes.now c.loop-node.node-index _ c.loop-node-test.true c.requires
