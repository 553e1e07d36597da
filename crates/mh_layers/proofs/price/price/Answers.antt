use Rattle.std.proofs.Common.{subst, sym}
use Rattle.mh_prices.specs.Meter.{Adds}
use Rattle.mh_layers.specs.declared.numbered_node.NumberedNode.{NumberedNode}
use Rattle.mh_layers.specs.Numbered.{through}
use Rattle.mh_layers.specs.Reading.{name, number, price_read}
use Rattle.mh_layers.proofs.NamesLemmas.{change_has, effect_has, entry_has, fired_has}
use Rattle.mh_layers.proofs.price.price.Goals as goal

pub returns-in-Effect : goal.returns-in-Effect
returns-in-Effect g c =
    let r = c.args.numbered_service.now in
    let m = through (number r) (g.M.Meter.meter c.args.meter.now) in
    subst (λ (k : NumberedNode). Adds g.M.Meter.seen m (price_read r (name r k)) c.args.sum c.effect_node.result) (sym c.in-Effect.is) c.effect_node.ensures

pub returns-in-Fired : goal.returns-in-Fired
returns-in-Fired g c =
    let r = c.args.numbered_service.now in
    let m = through (number r) (g.M.Meter.meter c.args.meter.now) in
    subst (λ (k : NumberedNode). Adds g.M.Meter.seen m (price_read r (name r k)) c.args.sum c.fired_node.result) (sym c.in-Fired.is) c.fired_node.ensures

pub returns-in-Entry : goal.returns-in-Entry
returns-in-Entry g c =
    let r = c.args.numbered_service.now in
    let m = through (number r) (g.M.Meter.meter c.args.meter.now) in
    subst (λ (k : NumberedNode). Adds g.M.Meter.seen m (price_read r (name r k)) c.args.sum c.entry_node.result) (sym c.in-Entry.is) c.entry_node.ensures

pub returns-in-Change : goal.returns-in-Change
returns-in-Change g c =
    let r = c.args.numbered_service.now in
    let m = through (number r) (g.M.Meter.meter c.args.meter.now) in
    subst (λ (k : NumberedNode). Adds g.M.Meter.seen m (price_read r (name r k)) c.args.sum c.change_node.result) (sym c.in-Change.is) c.change_node.ensures

pub effect_node-requires-clause-config : goal.effect_node-requires-clause-config
effect_node-requires-clause-config g c = (effect_has c.args.numbered_service.now c.args.node.now c.in-Effect.config c.in-Effect.at c.in-Effect.number c.in-Effect.is c.requires).0

pub effect_node-requires-clause-object : goal.effect_node-requires-clause-object
effect_node-requires-clause-object g c = (effect_has c.args.numbered_service.now c.args.node.now c.in-Effect.config c.in-Effect.at c.in-Effect.number c.in-Effect.is c.requires).1

pub fired_node-requires-clause-config : goal.fired_node-requires-clause-config
fired_node-requires-clause-config g c = (fired_has c.args.numbered_service.now c.args.node.now c.in-Fired.config c.in-Fired.source c.in-Fired.kind c.in-Fired.hears c.in-Fired.is c.requires).0

pub fired_node-requires-clause-object : goal.fired_node-requires-clause-object
fired_node-requires-clause-object g c = (fired_has c.args.numbered_service.now c.args.node.now c.in-Fired.config c.in-Fired.source c.in-Fired.kind c.in-Fired.hears c.in-Fired.is c.requires).1

pub fired_node-requires-clause-hearing : goal.fired_node-requires-clause-hearing
fired_node-requires-clause-hearing g c = (fired_has c.args.numbered_service.now c.args.node.now c.in-Fired.config c.in-Fired.source c.in-Fired.kind c.in-Fired.hears c.in-Fired.is c.requires).2

pub entry_node-requires-clause-object : goal.entry_node-requires-clause-object
entry_node-requires-clause-object g c = (entry_has c.args.numbered_service.now c.args.node.now c.in-Entry.source c.in-Entry.kind c.in-Entry.hears c.in-Entry.is c.requires).0

pub entry_node-requires-clause-hearing : goal.entry_node-requires-clause-hearing
entry_node-requires-clause-hearing g c = (entry_has c.args.numbered_service.now c.args.node.now c.in-Entry.source c.in-Entry.kind c.in-Entry.hears c.in-Entry.is c.requires).1

pub change_node-requires-clause-config : goal.change_node-requires-clause-config
change_node-requires-clause-config g c = (change_has c.args.numbered_service.now c.args.node.now c.in-Change.config c.in-Change.list c.in-Change.is c.requires).0

pub change_node-requires-clause-object : goal.change_node-requires-clause-object
change_node-requires-clause-object g c = (change_has c.args.numbered_service.now c.args.node.now c.in-Change.config c.in-Change.list c.in-Change.is c.requires).1
