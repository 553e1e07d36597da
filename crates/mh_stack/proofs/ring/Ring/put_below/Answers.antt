use Rattle.std.proofs.Common.{◌∙◌, sym, subst}
use Rattle.mh_stack.specs.Rings.{IsRound}
use Rattle.mh_stack.proofs.RoundLemmas.{below_order}
use Rattle.mh_stack.proofs.ring.Ring.put_below.Goals as goal

pub returns-else-has-clause-order : goal.returns-else-has-clause-order
returns-else-has-clause-order c =
    c.link-else-has.ensures.order ∙ below_order c.args.self.now c.args.number c.args.other (subst IsRound c.self.view_is c.self.invariant) (sym c.has.ensures ∙ c.if-has.false)
