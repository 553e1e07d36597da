use Rattle.std.proofs.Common.{◌≡◌, drop}
use Rattle.mh_laws.specs.Price.{sum_price}
use Rattle.mh_laws.specs.View as spec
use Rattle.mh_prices.specs.Meter.{onto}
use Rattle.mh_prices.proofs.actions.acts.Given as goal

abbrev pub invariant-loop-each : goal.invariant-loop-each
invariant-loop-each g l =
    let m = g.A.View.meter l.around in
    let a = g.A.View.around l.around in
    onto m (sum_price (spec.act a) (drop l.each-index l.acts)) (g.A.View.seen l.sum)
    ≡ onto m (sum_price (spec.act a) l.acts) (g.A.View.seen l.initial.sum)
