use Rattle.std.specs.Prelude.{Bool}
use Rattle.std.specs.Option.{option_map_or}
use Rattle.std.proofs.Common.{subst, sym}
use Rattle.mh_laws.specs.Costs as costs
use Rattle.mh_laws.specs.Price.{Nothing, Price}
use Rattle.mh_laws.specs.View.{leave_all, leave_scene}
use Rattle.mh_prices.specs.Meter.{Adds}
use Rattle.mh_layers.specs.CostNode.{CostNode, Leave}
use Rattle.mh_layers.specs.CostNodes.{group_effect}
use Rattle.mh_layers.specs.Numbered.{through}
use Rattle.mh_layers.specs.Reading.{around_at, number, price_read}
use Rattle.mh_layers.proofs.price.leaving.leave.Goals as goal

pub returns-then-all : goal.returns-then-all
returns-then-all g c =
    let s = c.args.walk.now.here.now in
    let m = through (number s.reading) (g.M.Meter.meter c.args.walk.now.meter.now) in
    let closes = group_effect s.reading.service s.config costs.on_close_down in
    subst (λ (b : Bool). Adds g.M.Meter.seen m (price_read s.reading (Leave s.config b)) c.args.sum c.leave_all.result) (sym c.if-all.true)
    (subst (λ (p : Price CostNode). Adds g.M.Meter.seen m p c.args.sum c.leave_all.result)
    (λ i. leave_all (around_at s).lists (option_map_or closes (c.scene-scene.ensures i) Nothing) (closes (c.config.ensures i).app) (c.scene_parts-parts.ensures i) (c.application_parts-application.ensures i))
    c.leave_all.ensures)

pub returns-else-all : goal.returns-else-all
returns-else-all g c =
    let s = c.args.walk.now.here.now in
    let m = through (number s.reading) (g.M.Meter.meter c.args.walk.now.meter.now) in
    let closes = group_effect s.reading.service s.config costs.on_close_down in
    subst (λ (b : Bool). Adds g.M.Meter.seen m (price_read s.reading (Leave s.config b)) c.args.sum c.leave_scene.result) (sym c.if-all.false)
    (subst (λ (p : Price CostNode). Adds g.M.Meter.seen m p c.args.sum c.leave_scene.result)
    (λ i. leave_scene (around_at s).lists (option_map_or closes (c.scene-scene.ensures i) Nothing) (c.scene_parts-parts.ensures i) (c.application_parts-application.ensures i))
    c.leave_scene.ensures)
