use Rattle.mh_verify.proofs.CycleRefusedLemmas.{cyclic_is_not}
use Rattle.mh_verify.proofs.verifying.cyclic_is_not.Goals as goal

pub returns : goal.returns
returns c = cyclic_is_not
