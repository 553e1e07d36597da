use Rattle.mh_layers.proofs.GroupedLemmas.{sums_by_data}
use Rattle.mh_layers.proofs.laws.sums_by_data.Goals as goal

pub returns : goal.returns
returns g c = sums_by_data _ _
