use Rattle.mh_layers.proofs.RankLemmas.{layers_are_ranks, ranks_are_layers}
use Rattle.mh_layers.proofs.bridge.nodes_are_ranked.Goals as goal

pub returns-clause-layers : goal.returns-clause-layers
returns-clause-layers c = ranks_are_layers

pub returns-clause-ranks : goal.returns-clause-ranks
returns-clause-ranks c = layers_are_ranks
