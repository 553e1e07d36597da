use Rattle.std.proofs.Common.{◌≡◌, drop}
use Rattle.std.specs.List.{flat_map}
use Rattle.mh_laws.specs.Costs.{late_by}
use Rattle.mh_laws.specs.Price.{most_price}
use Rattle.mh_prices.specs.Meter.{raise}
use Rattle.mh_layers.specs.Inputs as inputs
use Rattle.mh_layers.specs.Reading.{flow_read}
use Rattle.mh_layers.proofs.price.late.sites_from.Given as goal

abbrev pub invariant-loop-site : goal.invariant-loop-site
invariant-loop-site g l =
    let s = l.here in
    let m = g.A.View.meter l.around in
    let a = g.A.View.around l.around in
    raise m (most_price (inputs.scene_change a) (flat_map (λ x. late_by s.reading.service (flow_read s.reading) s.config x.act) (drop l.site-index l.sites))) (g.A.View.marked l.mark, g.A.View.seen l.sum)
    ≡ raise m (most_price (inputs.scene_change a) (flat_map (λ x. late_by s.reading.service (flow_read s.reading) s.config x.act) l.sites)) (g.A.View.marked l.initial.mark, g.A.View.seen l.initial.sum)
