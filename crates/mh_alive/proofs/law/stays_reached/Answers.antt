use Rattle.mh_alive.proofs.ReachLemmas.{stays_reached as reached}
use Rattle.mh_alive.proofs.law.stays_reached.Goals as goal

pub returns : goal.returns
returns c = reached
