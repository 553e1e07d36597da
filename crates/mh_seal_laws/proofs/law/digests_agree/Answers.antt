use Rattle.mh_seal_laws.proofs.DigestLemmas.{digests_agree, digests_go_well}
use Rattle.mh_seal_laws.proofs.law.digests_agree.Goals as goal

pub returns-clause-law : goal.returns-clause-law
returns-clause-law c = digests_agree

pub returns-clause-well : goal.returns-clause-well
returns-clause-well c = digests_go_well
