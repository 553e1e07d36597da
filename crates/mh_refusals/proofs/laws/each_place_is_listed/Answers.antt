use Rattle.mh_refusals.proofs.LawLemmas.{each_place_is_listed}
use Rattle.mh_refusals.proofs.laws.each_place_is_listed.Goals as goal

pub returns : goal.returns
returns c = each_place_is_listed
