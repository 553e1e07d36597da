use Rattle.std.proofs.Common.{◌≡◌, ◌+◌}
use Rattle.std.specs.List.{range_with_len}
use Rattle.mh_laws.specs.Price.{most_price}
use Rattle.mh_prices.specs.Meter.{raise}
use Rattle.mh_layers.specs.CostNodes.{effect}
use Rattle.mh_layers.specs.Numbered.{through}
use Rattle.mh_layers.specs.Reading.{number}
use Rattle.mh_layers.proofs.price.walk.Walk.effects_from.Given as goal

abbrev pub invariant-loop-left : goal.invariant-loop-left
invariant-loop-left g l =
    let s = l.self.here.now in
    let m = through (number s.reading) (g.M.Meter.meter l.self.meter.now) in
    raise m (most_price (λ n. effect s.config n l.part) (range_with_len l.number l.left)) (g.M.Meter.marked l.mark, g.M.Meter.seen l.sum)
    ≡ raise m (most_price (λ n. effect s.config n l.part) (range_with_len l.first l.count)) (g.M.Meter.marked l.initial.mark, g.M.Meter.seen l.initial.sum)
    × (l.number + l.left ≡ l.first + l.count)

abbrev pub decreases-loop-left : goal.decreases-loop-left
decreases-loop-left g l = l.left
