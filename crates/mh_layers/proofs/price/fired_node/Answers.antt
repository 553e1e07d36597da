use Rattle.std.proofs.Common.{subst}
use Rattle.mh_base.specs.declared.obj_ref.ObjRef.{ObjRef}
use Rattle.mh_prices.specs.Meter.{Adds}
use Rattle.mh_layers.specs.CostNode.{Fired}
use Rattle.mh_layers.specs.Numbered.{through}
use Rattle.mh_layers.specs.Reading.{CostContext, config_named, hearing_named, number, price_read}
use Rattle.mh_layers.proofs.price.fired_node.Goals as goal

pub returns : goal.returns
returns g c =
    let r = c.args.numbered_service.now in
    let m = g.M.Meter.meter c.args.meter.now in
    let kind = c.args.kind in
    let o = c.object-source.result.now in
    subst (λ (q : ObjRef). Adds g.M.Meter.seen (through (number r) m) (price_read r (Fired (config_named r c.args.config) q kind (hearing_named r q kind c.args.hears))) c.args.sum c.fired.result) c.object-source.ensures
    (subst (λ (s : CostContext). Adds g.M.Meter.seen (through (number s.reading) m) (price_read s.reading (Fired s.config o kind (hearing_named s.reading o kind c.args.hears))) c.args.sum c.fired.result) c.context_at-here.ensures c.fired.ensures)
