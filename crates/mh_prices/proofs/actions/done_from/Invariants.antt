use Rattle.std.proofs.Common.{◌≡◌, length}
use Rattle.mh_laws.specs.Price.{most_price}
use Rattle.mh_laws.specs.View as spec
use Rattle.mh_prices.specs.Meter.{raise}
use Rattle.mh_prices.proofs.actions.done_from.Given as goal

abbrev pub invariant-loop-object : goal.invariant-loop-object
invariant-loop-object g l =
    let m = g.A.View.meter l.around in
    let a = g.A.View.around l.around in
    raise m (most_price (spec.done_to a l.act.name l.act.arguments) (g.A.View.left l.around l.variable l.place)) (g.A.View.marked l.mark, g.A.View.seen l.sum)
    ≡ raise m (most_price (spec.done_to a l.act.name l.act.arguments) (g.A.View.left l.around l.variable l.initial.place)) (g.A.View.marked l.initial.mark, g.A.View.seen l.initial.sum)

abbrev pub decreases-loop-object : goal.decreases-loop-object
decreases-loop-object g l = length (g.A.View.left l.around l.variable l.place)
