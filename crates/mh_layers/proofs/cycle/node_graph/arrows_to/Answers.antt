use Rattle.std.proofs.Common.{rules}
use Rattle.mh_layers.specs.EffectSites.{arrow_by}
use Rattle.mh_layers.proofs.GraphLemmas.{mapped_more}
use Rattle.mh_layers.proofs.cycle.node_graph.arrows_to.Goals as goal

pub loop-node-preserved : goal.loop-node-preserved
loop-node-preserved c =
    mapped_more (arrow_by c.args.nodes.now.keys c.args.labels.now) c.args.row.now c.loop-node.node-index _ c.loop-node.arrows.items _ c.arrow_to.result
    c.loop-node.invariant c.loop-node-test.true c.arrow_to.ensures (search rules)
