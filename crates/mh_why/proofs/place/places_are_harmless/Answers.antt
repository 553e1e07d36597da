use Rattle.mh_why.proofs.HarmlessLemmas.{harmless_place}
use Rattle.mh_why.proofs.place.places_are_harmless.Goals as goal

pub returns : goal.returns
returns c = harmless_place
