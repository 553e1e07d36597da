use Rattle.mh_laws.proofs.ReceiverLemmas.{runs_alone_law}
use Rattle.mh_laws.proofs.headline.runs_alone.Goals as goal

pub returns : goal.returns
returns c = runs_alone_law
