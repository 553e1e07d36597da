use Rattle.mh_layers.proofs.DearestLemmas.{chosen_more}
use Rattle.mh_layers.specs.Reading.{kept}
use Rattle.mh_layers.proofs.NamesLemmas.{each_item}
use Rattle.mh_layers.proofs.ways.dearest.dearest_of.Goals as goal

pub loop-node-preserved : goal.loop-node-preserved
loop-node-preserved c =
    chosen_more _ _ c.args.nodes.now c.loop-node.node-index _ _ _ c.loop-node-test.true c.loop-node.invariant c.in_ok-see.ensures

pub see-requires : goal.see-requires
see-requires c = each_item (kept c.args.numbered_service.now) c.args.nodes.now c.loop-node.node-index _ c.loop-node-test.true c.requires
