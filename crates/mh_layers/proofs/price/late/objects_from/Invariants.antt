use Rattle.std.proofs.Common.{◌≡◌, drop}
use Rattle.mh_laws.specs.Price.{most_price}
use Rattle.mh_prices.specs.Meter.{raise}
use Rattle.mh_layers.specs.Inputs as inputs
use Rattle.mh_layers.specs.Taking.{late_among}
use Rattle.mh_layers.proofs.price.late.objects_from.Given as goal

abbrev pub invariant-loop-at : goal.invariant-loop-at
invariant-loop-at g l =
    let v = l.here.reading.service in
    let m = g.A.View.meter l.around in
    let a = g.A.View.around l.around in
    raise m (most_price (inputs.scene_change a) (late_among v l.name (drop l.at-index l.objects))) (g.A.View.marked l.mark, g.A.View.seen l.sum)
    ≡ raise m (most_price (inputs.scene_change a) (late_among v l.name l.objects)) (g.A.View.marked l.initial.mark, g.A.View.seen l.initial.sum)
