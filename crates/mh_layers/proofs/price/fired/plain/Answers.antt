use Rattle.std.proofs.Common.{◌&&◌, filter, ap, ◌∙◌}
use Rattle.mh_model.specs.declared.config.Config.{Config}
use Rattle.mh_model.specs.Service.{group_parts}
use Rattle.mh_layers.specs.Grouped.{is_plain}
use Rattle.mh_layers.specs.CostNodes.{data_of, waits_for}
use Rattle.mh_layers.specs.Numbered.{through}
use Rattle.mh_layers.specs.Reading.{Reading, number}
use Rattle.mh_layers.proofs.OntoLemmas.{links_come}
use Rattle.mh_layers.proofs.price.fired.plain.Goals as goal

pub returns : goal.returns
returns g c =
    let s = c.args.walk.now.here.now in
    let m = through (number s.reading) (g.M.Meter.meter c.args.walk.now.meter.now) in
    let o = c.args.source.now in
    let kind = c.args.kind in
    links_come g.M.Meter.seen m s.reading.service s.config o kind is_plain c.plain_links-application.result.now c.scene_plain_links.result.now c.args.sum c.in_ok-sum.sum c.links-2.result
    (c.plain_links-application.ensures
    ∙ ap (λ (r : Reading). filter (λ p. waits_for o kind p && is_plain (data_of p)) (group_parts r.service c.config.result.now.app)) c.numbered_service.ensures
    ∙ ap (λ (d : Config). filter (λ p. waits_for o kind p && is_plain (data_of p)) (group_parts s.reading.service d.app)) c.config.ensures)
    c.scene_plain_links.ensures c.in_ok-sum.ensures c.links-2.ensures
