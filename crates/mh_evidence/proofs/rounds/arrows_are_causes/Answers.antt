use Rattle.mh_evidence.proofs.RoundLemmas.{arrows_are_causes}
use Rattle.mh_evidence.proofs.rounds.arrows_are_causes.Goals as goal

pub returns : goal.returns
returns c = arrows_are_causes
