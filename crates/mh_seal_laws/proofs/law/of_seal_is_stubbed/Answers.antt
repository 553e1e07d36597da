use Rattle.mh_seal_laws.proofs.JoinLemmas.{joined}
use Rattle.mh_seal_laws.proofs.law.of_seal_is_stubbed.Goals as goal

pub returns : goal.returns
returns c = joined
