use Rattle.std.proofs.Common.{subst}
use Rattle.mh_prices.specs.Meter.{Adds}
use Rattle.mh_layers.specs.CostNode.{Taken}
use Rattle.mh_layers.specs.Numbered.{through}
use Rattle.mh_layers.specs.Reading.{CostContext, number, price_read}
use Rattle.mh_layers.proofs.price.taken_node.Goals as goal

pub returns : goal.returns
returns g c =
    let m = g.M.Meter.meter c.args.meter.now in
    subst (λ (s : CostContext). Adds g.M.Meter.seen (through (number s.reading) m) (price_read s.reading (Taken s.config c.args.kind)) c.args.sum c.taken.result) c.context_at-here.ensures c.taken.ensures
