use Rattle.mh_layers.proofs.NamesLemmas.{names_there}
use Rattle.mh_layers.proofs.price.priced.counted_nodes.Goals as goal

pub price-requires : goal.price-requires
price-requires c = names_there c.args.numbered_service.now c.read.ensures c.args.node.now c.requires
