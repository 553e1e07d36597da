use Rattle.mh_seal.proofs.SealLemmas.{one_seal}
use Rattle.mh_seal.proofs.laws.spells_one_seal.Goals as goal

pub returns : goal.returns
returns c = one_seal
