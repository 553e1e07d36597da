use Rattle.mh_verify.proofs.CycleRefusedLemmas.{costly_is_not}
use Rattle.mh_verify.proofs.verifying.costly_is_not.Goals as goal

pub returns : goal.returns
returns c = costly_is_not
