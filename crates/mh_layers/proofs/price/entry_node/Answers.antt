use Rattle.std.proofs.Common.{subst}
use Rattle.mh_base.specs.declared.obj_ref.ObjRef.{ObjRef}
use Rattle.mh_prices.specs.Meter.{Adds}
use Rattle.mh_layers.specs.CostNode.{Entry}
use Rattle.mh_layers.specs.Numbered.{through}
use Rattle.mh_layers.specs.Reading.{flow_read, hearing_named, number, price_read}
use Rattle.mh_layers.proofs.OntoLemmas.{entry_adds}
use Rattle.mh_layers.proofs.price.entry_node.Goals as goal

pub returns : goal.returns
returns g c =
    let r = c.args.numbered_service.now in
    let m = g.M.Meter.meter c.args.meter.now in
    let kind = c.args.kind in
    let o = c.object-source.result.now in
    subst (λ (q : ObjRef). Adds g.M.Meter.seen (through (number r) m) (price_read r (Entry q kind (hearing_named r q kind c.args.hears))) c.args.sum c.configs_most.result) c.object-source.ensures
    (entry_adds g.M.Meter.seen m r o kind (hearing_named r o kind c.args.hears) c.hearing-hears.result (flow_read r).configs c.args.sum c.one.result c.configs_most.result
    c.hearing-hears.ensures c.one.ensures c.configs_most.ensures)
