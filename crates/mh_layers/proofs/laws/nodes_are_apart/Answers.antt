use Rattle.mh_layers.specs.NumberedNodeLaws.{nodes_are_apart}
use Rattle.mh_layers.proofs.laws.nodes_are_apart.Goals as goal

pub returns : goal.returns
returns c = nodes_are_apart
