use Rattle.std.proofs.Common.{◌≡◌, drop}
use Rattle.mh_laws.specs.Price.{sum_price}
use Rattle.mh_laws.specs.View as spec
use Rattle.mh_model.specs.declared.object.member.Member.{Member}
use Rattle.mh_prices.specs.Meter.{onto}
use Rattle.mh_prices.proofs.life.members_halt.Given as goal

abbrev pub invariant-loop-member : goal.invariant-loop-member
invariant-loop-member g l =
    let m = g.V.View.meter l.view in
    let a = (g.V.View.around l.view).lists.view in
    onto m (sum_price (λ (x : Member). spec.halt_alone a x.object) (drop l.member-index l.members)) (g.V.View.seen l.sum)
    ≡ onto m (sum_price (λ (x : Member). spec.halt_alone a x.object) l.members) (g.V.View.seen l.initial.sum)
