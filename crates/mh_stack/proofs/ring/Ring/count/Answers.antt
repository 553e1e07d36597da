use Rattle.std.proofs.Common.{subst}
use Rattle.mh_stack.specs.Rings.{IsRound}
use Rattle.mh_stack.proofs.RoundLemmas.{few_told}
use Rattle.mh_stack.proofs.ring.Ring.count.Goals as goal

pub returns-clause-few : goal.returns-clause-few
returns-clause-few c = few_told c.args.self.now (subst IsRound c.self.view_is c.self.invariant)
