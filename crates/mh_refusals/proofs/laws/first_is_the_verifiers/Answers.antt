use Rattle.mh_refusals.proofs.LawLemmas.{first_is_the_verifiers}
use Rattle.mh_refusals.proofs.laws.first_is_the_verifiers.Goals as goal

pub returns : goal.returns
returns c = first_is_the_verifiers
