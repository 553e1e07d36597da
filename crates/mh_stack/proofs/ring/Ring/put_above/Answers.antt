use Rattle.std.proofs.Common.{◌∙◌, sym, subst}
use Rattle.mh_stack.specs.Rings.{IsRound}
use Rattle.mh_stack.proofs.RoundLemmas.{above_order, above_none_order}
use Rattle.mh_stack.proofs.ring.Ring.put_above.Goals as goal

pub returns-then-has-clause-order : goal.returns-then-has-clause-order
returns-then-has-clause-order c =
    c.put_below.ensures.order ∙ above_order c.args.self.now c.args.number c.args.other c.over.result (subst IsRound c.self.view_is c.self.invariant) (sym c.has.ensures ∙ c.if-has.true) c.over.ensures

pub returns-else-has-clause-order : goal.returns-else-has-clause-order
returns-else-has-clause-order c =
    c.link.ensures.order ∙ above_none_order c.args.self.now c.args.number c.args.other (subst IsRound c.self.view_is c.self.invariant) (sym c.has.ensures ∙ c.if-has.false)
