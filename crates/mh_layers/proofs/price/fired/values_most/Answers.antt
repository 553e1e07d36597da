use Rattle.std.proofs.Common.{ap, ◌∙◌, sym}
use Rattle.mh_base.specs.declared.value.Value.{Value}
use Rattle.mh_laws.specs.Price.{Node, Price, most_price}
use Rattle.mh_prices.specs.Meter.{raise}
use Rattle.mh_layers.specs.CostNode.{Fired, CostNode, With}
use Rattle.mh_layers.specs.Numbered.{through}
use Rattle.mh_layers.specs.Reading.{number}
use Rattle.mh_layers.proofs.MostLemmas.{most_listed}
use Rattle.mh_layers.proofs.price.fired.values_most.Goals as goal

pub returns : goal.returns
returns g c =
    let s = c.args.walk.now.here.now in
    let m = through (number s.reading) (g.M.Meter.meter c.args.walk.now.meter.now) in
    let f : (Value → Price CostNode) = λ (x : Value). Node (Fired s.config c.args.source.now c.args.kind (With x)) in
    c.close.ensures ∙ ap m.close (c.in_ok-mark.ensures ∙ ap (raise m (most_price f c.args.values.now)) c.aside-mark.ensures)
    ∙ most_listed m f c.args.values.now (g.M.Meter.seen c.args.sum) (sym c.is_empty.ensures ∙ c.if-is_empty.false)
