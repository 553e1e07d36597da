use Rattle.std.specs.Prelude.{ℕ, List}
use Rattle.std.proofs.Common.{◌∙◌, subst}
use Rattle.mh_laws.specs.Price.{most_price}
use Rattle.mh_layers.specs.Inputs as inputs
use Rattle.mh_layers.specs.Numbered.{through}
use Rattle.mh_layers.specs.Reading.{around_at, flow_read, number}
use Rattle.mh_layers.proofs.LateLemmas.{Raises, all_scenes}
use Rattle.mh_layers.proofs.price.late.changes_from.Goals as goal

pub returns : goal.returns
returns g c =
    let s = c.args.walk.now.here.now in
    let m = through (number s.reading) (g.M.Meter.meter c.args.walk.now.meter.now) in
    let f = inputs.scene_change (around_at s) in
    subst (λ (gs : List (List ℕ)). Raises g.M.Meter.marked g.M.Meter.seen m (most_price f gs) (g.M.Meter.marked c.args.mark, g.M.Meter.seen c.args.sum) c.sites_from.result)
    (all_scenes s.reading.service (flow_read s.reading) s.config c.as_slice.result.now (c.as_slice.ensures.value ∙ c.in_ok-sites.ensures)) c.sites_from.ensures
