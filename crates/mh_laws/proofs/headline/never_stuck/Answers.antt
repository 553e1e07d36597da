use Rattle.mh_laws.proofs.SafeLemmas.{never_stuck_law}
use Rattle.mh_laws.proofs.headline.never_stuck.Goals as goal

pub returns : goal.returns
returns c = never_stuck_law
