use Rattle.mh_refusals.proofs.LawLemmas.{listed_is_wrong}
use Rattle.mh_refusals.proofs.laws.listed_is_wrong.Goals as goal

pub returns : goal.returns
returns c = listed_is_wrong
