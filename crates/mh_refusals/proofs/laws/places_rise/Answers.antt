use Rattle.mh_refusals.proofs.LawLemmas.{places_rise}
use Rattle.mh_refusals.proofs.laws.places_rise.Goals as goal

pub returns : goal.returns
returns c = places_rise
