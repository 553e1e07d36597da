use Rattle.std.proofs.Common.{◌≡◌, length}
use Rattle.mh_laws.specs.Price.{sum_price}
use Rattle.mh_laws.specs.View as spec
use Rattle.mh_prices.specs.Meter.{onto}
use Rattle.mh_prices.proofs.life.items_halt.Given as goal

abbrev pub invariant-loop-item : goal.invariant-loop-item
invariant-loop-item g l =
    let m = g.V.View.meter l.view in
    let a = (g.V.View.around l.view).lists.view in
    onto m (sum_price (spec.halt_alone a) (g.V.View.left l.view l.list l.place)) (g.V.View.seen l.sum)
    ≡ onto m (sum_price (spec.halt_alone a) (a.set l.list)) (g.V.View.seen l.initial.sum)

abbrev pub decreases-loop-item : goal.decreases-loop-item
decreases-loop-item g l = length (g.V.View.left l.view l.list l.place)
