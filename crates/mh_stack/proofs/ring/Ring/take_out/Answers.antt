use Rattle.std.proofs.Common.{◌∙◌, sym, subst}
use Rattle.mh_stack.specs.Rings.{IsRound}
use Rattle.mh_stack.proofs.RoundLemmas.{some_told, moves_told, none_order}
use Rattle.mh_stack.proofs.ring.Ring.take_out.Goals as goal

pub unlink-requires-clause-some : goal.unlink-requires-clause-some
unlink-requires-clause-some c = some_told c.args.self.now c.args.number (subst IsRound c.self.view_is c.self.invariant) (sym c.has.ensures ∙ c.if-has.true)

pub unlink-requires-clause-linked : goal.unlink-requires-clause-linked
unlink-requires-clause-linked c = moves_told c.args.self.now c.args.number (subst IsRound c.self.view_is c.self.invariant) (sym c.has.ensures ∙ c.if-has.true)

pub returns-else-has-clause-order : goal.returns-else-has-clause-order
returns-else-has-clause-order c = none_order c.args.self.now c.args.number (sym c.has.ensures ∙ c.if-has.false)
