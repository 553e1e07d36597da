use Rattle.mh_layers.proofs.BridgeLemmas.{nodes_are_exact, nodes_cost}
use Rattle.mh_layers.proofs.bridge.nodes_cost.Goals as goal

pub returns-clause-cost : goal.returns-clause-cost
returns-clause-cost c = nodes_cost

pub returns-clause-exact : goal.returns-clause-exact
returns-clause-exact c = nodes_are_exact
