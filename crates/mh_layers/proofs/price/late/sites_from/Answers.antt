use Rattle.std.specs.Prelude.{ℕ, List}
use Rattle.std.specs.List.{flat_map}
use Rattle.std.proofs.Common.{arith, ap, ◌∙◌}
use Rattle.mh_flow.specs.Sites.{Site}
use Rattle.mh_laws.specs.Costs.{late_by}
use Rattle.mh_laws.specs.Price.{most_price}
use Rattle.mh_prices.specs.Meter.{raise}
use Rattle.mh_layers.specs.Inputs as inputs
use Rattle.mh_layers.specs.Reading.{flow_read}
use Rattle.mh_layers.proofs.OntoLemmas.{one_list}
use Rattle.mh_layers.proofs.price.late.sites_from.Goals as goal

pub loop-site-preserved : goal.loop-site-preserved
loop-site-preserved g c =
    let s = c.args.here.now in
    let m = g.A.View.meter c.args.around.now in
    let f = inputs.scene_change (g.A.View.around c.args.around.now) in
    let h : (Site → List (List ℕ)) = λ (x : Site). late_by s.reading.service (flow_read s.reading) s.config x.act in
    one_list m f h c.args.sites.now c.loop-site.site-index c.site-item.result (g.A.View.marked c.loop-site.mark, g.A.View.seen c.loop-site.sum) (g.A.View.marked c.in_ok-mark.field-0-0, g.A.View.seen c.in_ok-mark.field-0-1)
    (raise m (most_price f (flat_map h c.args.sites.now)) (g.A.View.marked c.args.mark, g.A.View.seen c.args.sum))
    (omega (arith, c.loop-site-test.true)) c.site-item.is
    (c.in_ok-mark.ensures ∙ ap (λ (x : Site). raise m (most_price f (h x)) (g.A.View.marked c.loop-site.mark, g.A.View.seen c.loop-site.sum)) c.site.view_is)
    c.loop-site.invariant
