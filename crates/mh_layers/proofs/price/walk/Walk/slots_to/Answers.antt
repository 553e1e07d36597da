use Rattle.std.specs.Prelude.{ℕ}
use Rattle.std.proofs.Common.{arith, ap, ◌∙◌}
use Rattle.mh_laws.specs.Costs as costs
use Rattle.mh_laws.specs.Price.{Price, most_price}
use Rattle.std.specs.List.{range_with_len}
use Rattle.mh_prices.specs.Meter.{raise}
use Rattle.mh_layers.specs.CostNode.{CostNode}
use Rattle.mh_layers.specs.CostNodes.{effect}
use Rattle.mh_layers.specs.Numbered.{through}
use Rattle.mh_layers.specs.Reading.{number}
use Rattle.mh_layers.proofs.OntoLemmas.{most_begun}
use Rattle.mh_layers.proofs.price.walk.Walk.slots_to.Goals as goal

pub returns : goal.returns
returns g c =
    let s = c.args.self.now.here.now in
    let m = through (number s.reading) (g.M.Meter.meter c.args.self.now.meter.now) in
    let f : (ℕ → Price CostNode) = λ (n : ℕ). effect s.config n c.args.part.now in
    c.close.ensures ∙ ap m.close (c.in_ok-mark.ensures ∙ ap (raise m (most_price f (range_with_len costs.first_slot c.args.count))) c.aside-mark.ensures)
    ∙ most_begun m f costs.first_slot c.args.count (g.M.Meter.seen c.args.sum) (omega (arith, c.if-count-eq0.false))
