use Rattle.std.proofs.Common.{◌≡◌, drop}
use Rattle.mh_laws.specs.Price.{Node, most_price}
use Rattle.mh_prices.specs.Meter.{raise}
use Rattle.mh_layers.specs.CostNode.{Fired, With}
use Rattle.mh_layers.specs.Numbered.{through}
use Rattle.mh_layers.specs.Reading.{number}
use Rattle.mh_layers.proofs.price.fired.values_from.Given as goal

abbrev pub invariant-loop-value : goal.invariant-loop-value
invariant-loop-value g l =
    let s = l.walk.here.now in
    let m = through (number s.reading) (g.M.Meter.meter l.walk.meter.now) in
    raise m (most_price (λ x. Node (Fired s.config l.source l.kind (With x))) (drop l.value-index l.values)) (g.M.Meter.marked l.mark, g.M.Meter.seen l.sum)
    ≡ raise m (most_price (λ x. Node (Fired s.config l.source l.kind (With x))) l.values) (g.M.Meter.marked l.initial.mark, g.M.Meter.seen l.initial.sum)
