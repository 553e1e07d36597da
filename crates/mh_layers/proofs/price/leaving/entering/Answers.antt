use Rattle.std.proofs.Common.{ap, ◌∙◌, subst}
use Rattle.mh_model.specs.Reference.{group_ref}
use Rattle.mh_model.specs.Service.{Service, group_parts}
use Rattle.mh_laws.specs.Costs as costs
use Rattle.mh_laws.specs.Price.{Price}
use Rattle.mh_laws.specs.View.{enter}
use Rattle.mh_prices.specs.Meter.{Adds}
use Rattle.mh_layers.specs.CostNode.{CostNode}
use Rattle.mh_layers.specs.CostNodes.{group_effect}
use Rattle.mh_layers.specs.Numbered.{through}
use Rattle.mh_layers.specs.Reading.{Reading, around_at, number}
use Rattle.mh_layers.proofs.price.leaving.entering.Goals as goal

pub returns : goal.returns
returns g c =
    let s = c.args.walk.now.here.now in
    let v = s.reading.service in
    let m = through (number s.reading) (g.M.Meter.meter c.args.walk.now.meter.now) in
    let group = c.entered-group.result.now in
    let there = c.parts-parts.ensures ∙ ap (λ (w : Service). group_parts w group) c.service.ensures ∙ ap (λ (r : Reading). group_parts r.service group) c.numbered_service.ensures ∙ ap (group_parts v) c.entered-group.ensures in
    subst (λ (p : Price CostNode). Adds g.M.Meter.seen m p c.args.sum c.enter.result)
    (λ i. enter (around_at s).lists (group_effect v s.config costs.on_start_up (c.entered-group.ensures i)) (group_ref (c.entered-group.ensures i)) (there i))
    c.enter.ensures
