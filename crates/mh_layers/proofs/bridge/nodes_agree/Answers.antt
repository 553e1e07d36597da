use Rattle.mh_layers.proofs.BridgeLemmas.{counted_is_met, nodes_agree}
use Rattle.mh_layers.proofs.bridge.nodes_agree.Goals as goal

pub returns-clause-prices : goal.returns-clause-prices
returns-clause-prices c = nodes_agree

pub returns-clause-met : goal.returns-clause-met
returns-clause-met c = counted_is_met
