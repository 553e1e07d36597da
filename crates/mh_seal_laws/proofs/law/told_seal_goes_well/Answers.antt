use Rattle.mh_seal_laws.proofs.ToldLemmas.{told_seal_goes_well}
use Rattle.mh_seal_laws.proofs.law.told_seal_goes_well.Goals as goal

pub returns : goal.returns
returns c = told_seal_goes_well
