use Rattle.std.proofs.Common.{refl}
use Rattle.mh_layers.proofs.WayLemmas.{all_ways}
use Rattle.mh_layers.proofs.ways.ways_in.Goals as goal

pub returns : goal.returns
returns c = all_ways c.args.numbered_service.now _ c.in_ok-ways.ways.items refl c.in_ok-ways.ensures
