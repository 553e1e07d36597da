use Rattle.std.proofs.Common.{◌∙◌}
use Rattle.mh_stack.proofs.RoundLemmas.{pushed}
use Rattle.mh_stack.proofs.ring.Ring.push.Goals as goal

pub invariant_of-self : goal.invariant_of-self
invariant_of-self c = pushed c.args.self.now _ c.len-number.result _ _ c.self.view_is c.self.invariant (c.len-number.ensures ∙ c.self.inside.above.ok.0) c.push_reserved.ensures.items c.push_reserved-2.ensures.items
