use Rattle.mh_laws.proofs.LeastLemmas.{derived_in_each}
use Rattle.mh_laws.proofs.headline.derived_is_in_each.Goals as goal

pub returns : goal.returns
returns c = derived_in_each
