use Rattle.mh_verify.proofs.RefusalLemmas.{refused_is_not}
use Rattle.mh_verify.proofs.verifying.refused_is_not.Goals as goal

pub returns : goal.returns
returns c = refused_is_not
