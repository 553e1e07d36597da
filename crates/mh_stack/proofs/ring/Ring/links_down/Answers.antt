use Rattle.std.proofs.Common.{subst}
use Rattle.mh_stack.specs.Rings.{IsRound}
use Rattle.mh_stack.proofs.RoundLemmas.{down_told}
use Rattle.mh_stack.proofs.ring.Ring.links_down.Goals as goal

pub returns-clause-reverse : goal.returns-clause-reverse
returns-clause-reverse c = down_told c.args.self.now (subst IsRound c.self.view_is c.self.invariant)
