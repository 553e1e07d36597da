use Rattle.std.proofs.Common.{subst}
use Rattle.mh_prices.specs.Meter.{Adds}
use Rattle.mh_layers.specs.CostNode.{Leave}
use Rattle.mh_layers.specs.Numbered.{through}
use Rattle.mh_layers.specs.Reading.{CostContext, number, price_read}
use Rattle.mh_layers.proofs.price.leave_node.Goals as goal

pub returns : goal.returns
returns g c =
    let m = g.M.Meter.meter c.args.meter.now in
    subst (λ (s : CostContext). Adds g.M.Meter.seen (through (number s.reading) m) (price_read s.reading (Leave s.config c.args.all)) c.args.sum c.leave.result) c.context_at-here.ensures c.leave.ensures
