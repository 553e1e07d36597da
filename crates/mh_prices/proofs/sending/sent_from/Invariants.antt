use Rattle.std.proofs.Common.{◌≡◌, length}
use Rattle.mh_base.specs.declared.obj_ref.ObjRef.{ObjRef}
use Rattle.mh_laws.specs.Price.{most_price}
use Rattle.mh_laws.specs.View as spec
use Rattle.mh_prices.specs.Meter.{raise}
use Rattle.mh_prices.proofs.sending.sent_from.Given as goal

abbrev pub invariant-loop-object : goal.invariant-loop-object
invariant-loop-object g l =
    let m = g.V.View.meter l.view in
    let a = (g.V.View.around l.view).lists.view in
    raise m (most_price (λ (q : ObjRef). spec.emit a q l.kind l.told) (g.V.View.left l.view l.variable l.place)) (g.V.View.marked l.mark, g.V.View.seen l.sum)
    ≡ raise m (most_price (λ (q : ObjRef). spec.emit a q l.kind l.told) (g.V.View.left l.view l.variable l.initial.place)) (g.V.View.marked l.initial.mark, g.V.View.seen l.initial.sum)

abbrev pub decreases-loop-object : goal.decreases-loop-object
decreases-loop-object g l = length (g.V.View.left l.view l.variable l.place)
