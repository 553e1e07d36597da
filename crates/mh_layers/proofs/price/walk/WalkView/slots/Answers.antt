use Rattle.std.specs.Prelude.{ℕ}
use Rattle.std.specs.List.{range_with_len}
use Rattle.std.proofs.Common.{subst}
use Rattle.mh_laws.specs.Costs as costs
use Rattle.mh_laws.specs.Price.{most_price}
use Rattle.mh_prices.specs.Meter.{Adds}
use Rattle.mh_layers.specs.CostNodes.{effect}
use Rattle.mh_layers.specs.Numbered.{through}
use Rattle.mh_layers.specs.Reading.{number}
use Rattle.mh_layers.proofs.price.walk.WalkView.slots.Goals as goal

pub returns : goal.returns
returns g c =
    let s = c.args.self.now.here.now in
    let m = through (number s.reading) (g.M.Meter.meter c.args.self.now.meter.now) in
    subst (λ (k : ℕ). Adds g.M.Meter.seen m (most_price (λ n. effect s.config n c.args.part.now) (range_with_len costs.first_slot k)) c.args.sum c.slots_to.result) c.in_ok-count.ensures.count c.slots_to.ensures
