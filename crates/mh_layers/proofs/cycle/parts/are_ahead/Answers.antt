use Rattle.std.proofs.Common.{rules, length}
use Rattle.mh_layers.specs.Ranked.{all_ahead, are_ahead}
use Rattle.mh_layers.proofs.PartLemmas.{ahead_all, is_ahead, not_ahead}
use Rattle.mh_layers.proofs.cycle.parts.are_ahead.Goals as goal

pub loop-node-preserved : goal.loop-node-preserved
loop-node-preserved c =
    is_ahead (all_ahead c.args.parts.now c.args.alone.now c.args.graph.now) c.loop-node.node (length c.args.graph.now.nodes.items) (are_ahead c.args.parts.now c.args.alone.now c.args.graph.now)
    (search rules) (search rules) c.loop-node.invariant

pub returns-then-not-all_ahead : goal.returns-then-not-all_ahead
returns-then-not-all_ahead c =
    not_ahead (all_ahead c.args.parts.now c.args.alone.now c.args.graph.now) c.loop-node.node (length c.args.graph.now.nodes.items) (are_ahead c.args.parts.now c.args.alone.now c.args.graph.now)
    (search rules) (search rules) c.loop-node.invariant

pub returns : goal.returns
returns c =
    ahead_all (all_ahead c.args.parts.now c.args.alone.now c.args.graph.now) c.loop-node.node (length c.args.graph.now.nodes.items) (are_ahead c.args.parts.now c.args.alone.now c.args.graph.now)
    (search rules) c.loop-node.invariant
