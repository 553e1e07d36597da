use Rattle.std.proofs.Common.{rules}
use Rattle.mh_layers.proofs.RootLemmas.{rooted}
use Rattle.mh_layers.proofs.laying.roots.roots.Goals as goal

pub returns : goal.returns
returns c =
    rooted c.args.numbered_service.now c.in_ok-start.start c.push.new.self.items c.push_inputs.new.nodes.items c.push_effects.new.nodes.items
    c.in_ok-start.ensures (search rules) c.in_ok-push_inputs.ensures c.in_ok-push_effects.ensures
