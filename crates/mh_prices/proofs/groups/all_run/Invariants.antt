use Rattle.std.proofs.Common.{◌≡◌, drop, filter}
use Rattle.mh_laws.specs.Price.{sum_price}
use Rattle.mh_laws.specs.View as spec
use Rattle.mh_model.specs.declared.object.Fixed.{Fixed}
use Rattle.mh_model.specs.Groups.{is_initially_active}
use Rattle.mh_prices.specs.Meter.{onto}
use Rattle.mh_prices.proofs.groups.all_run.Given as goal

abbrev pub invariant-loop-part : goal.invariant-loop-part
invariant-loop-part g l =
    let m = g.L.View.meter l.lists in
    let a = (g.L.View.around l.lists).lists in
    onto m (sum_price (λ (p : Fixed). spec.run a p.key) (filter is_initially_active (drop l.part-index l.parts))) (g.L.View.seen l.sum)
    ≡ onto m (sum_price (λ (p : Fixed). spec.run a p.key) (filter is_initially_active l.parts)) (g.L.View.seen l.initial.sum)
