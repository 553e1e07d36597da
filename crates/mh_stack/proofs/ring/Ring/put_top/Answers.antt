use Rattle.std.proofs.Common.{◌∙◌, subst}
use Rattle.mh_stack.specs.Rings.{IsRound}
use Rattle.mh_stack.proofs.RoundLemmas.{top_order}
use Rattle.mh_stack.proofs.ring.Ring.put_top.Goals as goal

pub returns-clause-order : goal.returns-clause-order
returns-clause-order c = c.link.ensures.order ∙ top_order c.args.self.now c.args.number (subst IsRound c.self.view_is c.self.invariant)
