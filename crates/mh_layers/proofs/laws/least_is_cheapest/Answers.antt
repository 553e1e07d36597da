use Rattle.mh_layers.proofs.CheapestLemmas.{least_is_cheapest}
use Rattle.mh_layers.proofs.laws.least_is_cheapest.Goals as goal

pub returns : goal.returns
returns c = least_is_cheapest
