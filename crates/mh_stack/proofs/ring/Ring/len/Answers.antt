use Rattle.std.proofs.Common.{subst}
use Rattle.mh_stack.specs.Rings.{IsRound}
use Rattle.mh_stack.proofs.RoundLemmas.{within_told}
use Rattle.mh_stack.proofs.ring.Ring.len.Goals as goal

pub returns-clause-within : goal.returns-clause-within
returns-clause-within c = within_told c.args.self.now (subst IsRound c.self.view_is c.self.invariant)
