use Rattle.std.proofs.Common.{rules}
use Rattle.mh_layers.specs.Named.{IsEffectKept}
use Rattle.mh_layers.proofs.NamesLemmas.{each_item}
use Rattle.mh_layers.proofs.WalkLemmas.{best_all, best_more}
use Rattle.mh_layers.proofs.cycle.first_along.Goals as goal

pub loop-node-preserved : goal.loop-node-preserved
loop-node-preserved c = best_more _ _ _ c.args.nodes.now c.loop-node.node-index _ _ _ c.loop-node-test.true c.loop-node.invariant c.in_ok-try_node.ensures

pub returns : goal.returns
returns c = best_all _ _ _ c.args.nodes.now c.loop-node.node-index c.loop-node.best (search rules) c.loop-node.invariant

pub try_node-requires-clause-effect : goal.try_node-requires-clause-effect
try_node-requires-clause-effect c = each_item (IsEffectKept c.args.numbered_service.now) c.args.nodes.now c.loop-node.node-index _ c.loop-node-test.true c.requires.effects
