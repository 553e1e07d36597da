use Rattle.mh_seal_laws.proofs.ToldLemmas.{each_has_seal}
use Rattle.mh_seal_laws.proofs.law.each_has_seal.Goals as goal

pub returns : goal.returns
returns c = each_has_seal
