use Rattle.std.proofs.Common.{◌≡◌, drop}
use Rattle.mh_laws.specs.Price.{sum_price}
use Rattle.mh_prices.specs.Meter.{onto}
use Rattle.mh_layers.specs.Listening.{link_node}
use Rattle.mh_layers.specs.Numbered.{through}
use Rattle.mh_layers.specs.Reading.{number}
use Rattle.mh_layers.proofs.price.fired.links.Given as goal

abbrev pub invariant-loop-link : goal.invariant-loop-link
invariant-loop-link g l =
    let s = l.walk.here.now in
    let m = through (number s.reading) (g.M.Meter.meter l.walk.meter.now) in
    onto m (sum_price (link_node s.config) (drop l.link-index l.links)) (g.M.Meter.seen l.sum) ≡ onto m (sum_price (link_node s.config) l.links) (g.M.Meter.seen l.initial.sum)
