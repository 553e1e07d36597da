use Rattle.std.specs.Option.{option_copied}
use Rattle.std.proofs.Common.{ap, ◌∙◌, sym}
use Rattle.mh_base.specs.declared.value.Value.{Value}
use Rattle.mh_laws.specs.Price.{Node, Plus, Price, most_price}
use Rattle.mh_prices.specs.Meter.{onto}
use Rattle.mh_layers.specs.declared.numbered_node.NumberedNode.{NumberedNode}
use Rattle.mh_layers.specs.CostNode.{Fired, CostNode, Plain, With}
use Rattle.mh_layers.specs.CostNodes.{values}
use Rattle.mh_layers.specs.Numbered.{through}
use Rattle.mh_layers.specs.Reading.{Reading, heard_read, number}
use Rattle.mh_layers.proofs.OntoLemmas.{adds_as}
use Rattle.mh_layers.proofs.price.fired.any.Goals as goal

pub returns-in-Some : goal.returns-in-Some
returns-in-Some g c =
    let s = c.args.walk.now.here.now in
    let o = c.args.source.now in
    let kind = c.args.kind in
    let own = g.M.Meter.meter c.args.walk.now.meter.now in
    let m = through (number s.reading) own in
    let f : (Value → Price CostNode) = λ (x : Value). Node (Fired s.config o kind (With x)) in
    let same = c.as_slice.ensures ∙ ap values (sym (ap option_copied c.in-Some.is) ∙ c.values.ensures) ∙ ap (λ (r : Reading). values (heard_read r o kind)) c.numbered_service.ensures in
    let first = c.in_ok-sum.ensures ∙ ap (λ (k : NumberedNode). own.node k (g.M.Meter.seen c.args.sum)) c.fired_node-plain.ensures in
    adds_as g.M.Meter.seen m m (most_price f c.as_slice.result.now) (Plus (Node (Fired s.config o kind Plain)) (most_price f (values (heard_read s.reading o kind)))) c.args.sum c.in_ok-sum.sum c.values_most.result
    (λ i. onto m (most_price f (same i)) (first i)) c.values_most.ensures
