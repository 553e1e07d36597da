use Rattle.mh_layers.specs.Known.{told}
use Rattle.mh_layers.specs.Layering.{cost_in}
use Rattle.mh_layers.specs.Reading.{name, number, price_read}
use Rattle.mh_layers.proofs.KnowingLemmas.{known_adds}
use Rattle.mh_layers.proofs.price.priced.worth_of.Goals as goal

pub returns : goal.returns
returns c =
    let r = c.args.numbered_service.now in
    known_adds (number r) (told (cost_in c.args.costs.now)) (price_read r (name r c.args.node.now)) c.price.result c.price.ensures
