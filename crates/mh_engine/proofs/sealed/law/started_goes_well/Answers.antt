use Rattle.mh_engine.proofs.SealedStartLemmas.{begins_stubbed, started_goes_well}
use Rattle.mh_engine.proofs.sealed.law.started_goes_well.Goals as goal

pub returns-clause-begins : goal.returns-clause-begins
returns-clause-begins c = begins_stubbed

pub returns-clause-well : goal.returns-clause-well
returns-clause-well c = started_goes_well
