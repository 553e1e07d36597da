use Rattle.std.proofs.Common.{subst}
use Rattle.mh_stack.specs.Rings.{IsRound}
use Rattle.mh_stack.proofs.RoundLemmas.{has_told, zero_told}
use Rattle.mh_stack.proofs.ring.Ring.has.Goals as goal

pub returns-then-number-ne0 : goal.returns-then-number-ne0
returns-then-number-ne0 c = has_told c.args.self.now c.args.number c.over.result (subst IsRound c.self.view_is c.self.invariant) c.if-number-ne0.true c.over.ensures

pub returns-else-number-ne0 : goal.returns-else-number-ne0
returns-else-number-ne0 c = zero_told c.args.self.now c.args.number (subst IsRound c.self.view_is c.self.invariant) c.if-number-ne0.false
