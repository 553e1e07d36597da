use Rattle.std.proofs.Common.{◌≡◌, drop}
use Rattle.mh_laws.specs.Price.{most_price}
use Rattle.mh_prices.specs.Meter.{raise}
use Rattle.mh_layers.specs.Inputs as inputs
use Rattle.mh_layers.proofs.price.taken.pressed_from.Given as goal

abbrev pub invariant-loop-part : goal.invariant-loop-part
invariant-loop-part g l =
    let m = g.V.View.meter l.view in
    let a = (g.V.View.around l.view).lists.view in
    raise m (most_price (inputs.pressed a) (drop l.part-index l.parts)) (g.V.View.marked l.mark, g.V.View.seen l.sum)
    ≡ raise m (most_price (inputs.pressed a) l.parts) (g.V.View.marked l.initial.mark, g.V.View.seen l.initial.sum)
