use Rattle.std.proofs.Common.{◌&&◌, filter, slice_get, ap, ◌∙◌}
use Rattle.mh_model.specs.declared.config.Config.{Config}
use Rattle.mh_model.specs.Service.{group_parts}
use Rattle.mh_model.specs.Variables.{same_value}
use Rattle.mh_layers.specs.Grouped.{has}
use Rattle.mh_layers.specs.CostNodes.{data_of, waits_for}
use Rattle.mh_layers.specs.Numbered.{through}
use Rattle.mh_layers.specs.Reading.{Reading, number, values_read}
use Rattle.mh_layers.proofs.OntoLemmas.{links_come}
use Rattle.mh_layers.proofs.price.fired.with.Goals as goal

pub returns : goal.returns
returns g c x at =
    let s = c.args.walk.now.here.now in
    let m = through (number s.reading) (g.M.Meter.meter c.args.walk.now.meter.now) in
    let o = c.args.source.now in
    let kind = c.args.kind in
    links_come g.M.Meter.seen m s.reading.service s.config o kind (has same_value x) c.links_with-application.result.now c.scene_links_with.result.now c.args.sum c.in_ok-sum.sum c.links-2.result
    (c.links_with-application.ensures x (ap (λ (r : Reading). slice_get (values_read r o kind) c.args.value) c.numbered_service.ensures ∙ at)
    ∙ ap (λ (r : Reading). filter (λ p. waits_for o kind p && has same_value x (data_of p)) (group_parts r.service c.config.result.now.app)) c.numbered_service.ensures
    ∙ ap (λ (d : Config). filter (λ p. waits_for o kind p && has same_value x (data_of p)) (group_parts s.reading.service d.app)) c.config.ensures)
    (c.scene_links_with.ensures x at) c.in_ok-sum.ensures c.links-2.ensures
