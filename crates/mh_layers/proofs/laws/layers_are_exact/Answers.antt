use Rattle.mh_layers.proofs.ExactLemmas.{exact, exist}
use Rattle.mh_layers.proofs.laws.layers_are_exact.Goals as goal

pub returns-clause-exact : goal.returns-clause-exact
returns-clause-exact g c = exact _ _

pub returns-clause-exist : goal.returns-clause-exist
returns-clause-exist g c = exist _ _
