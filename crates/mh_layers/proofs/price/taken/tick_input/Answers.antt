use Rattle.std.proofs.Common.{ap, ◌∙◌}
use Rattle.mh_laws.specs.Costs.{is_group_in}
use Rattle.mh_laws.specs.Price.{One, Plus, sum_price}
use Rattle.mh_prices.specs.Meter.{onto}
use Rattle.mh_layers.specs.Inputs.{timer_due}
use Rattle.mh_layers.specs.CostNodes.{every_timer}
use Rattle.mh_layers.specs.Numbered.{through}
use Rattle.mh_layers.specs.Reading.{Reading, around_at, flow_read, number}
use Rattle.mh_layers.proofs.OntoLemmas.{adds_as}
use Rattle.mh_layers.proofs.price.taken.tick_input.Goals as goal

pub returns : goal.returns
returns g c =
    let s = c.args.walk.now.here.now in
    let m = through (number s.reading) (g.M.Meter.meter c.args.walk.now.meter.now) in
    let due = timer_due (around_at s).lists.view (is_group_in s.config) in
    let all = c.timers.ensures ∙ ap (λ (r : Reading). every_timer r.service (flow_read r)) c.numbered_service.ensures in
    adds_as g.M.Meter.seen m m (sum_price due c.timers.result.now) (Plus One (sum_price due (every_timer s.reading.service (flow_read s.reading)))) c.args.sum c.one.result c.timers_due.result
    (λ i. onto m (sum_price due (all i)) (c.one.ensures i)) c.timers_due.ensures
