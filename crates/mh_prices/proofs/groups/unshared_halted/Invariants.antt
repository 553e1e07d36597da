use Rattle.std.proofs.Common.{◌≡◌, ◌&&◌, not}
use Rattle.std.specs.Prelude.{filter, map}
use Rattle.mh_group.specs.Table.{is_runnable}
use Rattle.mh_laws.specs.Price.{sum_price}
use Rattle.mh_laws.specs.View as spec
use Rattle.mh_model.specs.declared.object.Fixed.{Fixed}
use Rattle.mh_model.specs.Groups.{is_shared}
use Rattle.mh_prices.specs.Meter.{onto}
use Rattle.mh_prices.proofs.groups.unshared_halted.Given as goal

abbrev pub invariant-loop-part : goal.invariant-loop-part
invariant-loop-part g l =
    let m = g.L.View.meter l.lists in
    let a = (g.L.View.around l.lists).lists in
    g.L.View.seen l.sum
    ≡ onto m (sum_price (λ (p : Fixed). spec.halt a p.key) (filter (λ p. is_runnable p.class && not (is_shared p)) (map (λ x. x.now) l.yielded))) (g.L.View.seen l.initial.sum)
