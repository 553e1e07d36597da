use Rattle.std.proofs.Common.{subst}
use Rattle.mh_base.specs.declared.obj_ref.ObjRef.{ObjRef}
use Rattle.mh_prices.specs.Meter.{Adds}
use Rattle.mh_layers.specs.CostNode.{Change}
use Rattle.mh_layers.specs.Numbered.{through}
use Rattle.mh_layers.specs.Reading.{CostContext, config_named, number, price_read}
use Rattle.mh_layers.proofs.price.change_node.Goals as goal

pub returns : goal.returns
returns g c =
    let r = c.args.numbered_service.now in
    let m = g.M.Meter.meter c.args.meter.now in
    let o = c.object-list.result.now in
    subst (λ (q : ObjRef). Adds g.M.Meter.seen (through (number r) m) (price_read r (Change (config_named r c.args.config) q)) c.args.sum c.change.result) c.object-list.ensures
    (subst (λ (s : CostContext). Adds g.M.Meter.seen (through (number s.reading) m) (price_read s.reading (Change s.config o)) c.args.sum c.change.result) c.context_at-here.ensures c.change.ensures)
