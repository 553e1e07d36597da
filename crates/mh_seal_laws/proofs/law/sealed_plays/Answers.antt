use Rattle.mh_seal_laws.proofs.SealedLemmas.{goes_well, met_so}
use Rattle.mh_seal_laws.proofs.law.sealed_plays.Goals as goal

pub returns-clause-law : goal.returns-clause-law
returns-clause-law c = met_so

pub returns-clause-well : goal.returns-clause-well
returns-clause-well c = goes_well
