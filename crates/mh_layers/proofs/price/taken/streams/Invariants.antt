use Rattle.std.proofs.Common.{◌≡◌, drop}
use Rattle.mh_laws.specs.Price.{sum_price}
use Rattle.mh_prices.specs.Meter.{onto}
use Rattle.mh_layers.specs.Inputs as inputs
use Rattle.mh_layers.proofs.price.taken.streams.Given as goal

abbrev pub invariant-loop-part : goal.invariant-loop-part
invariant-loop-part g l =
    let m = g.V.View.meter l.view in
    let a = (g.V.View.around l.view).lists.view in
    onto m (sum_price (inputs.stream_told a) (drop l.part-index l.parts)) (g.V.View.seen l.sum) ≡ onto m (sum_price (inputs.stream_told a) l.parts) (g.V.View.seen l.initial.sum)
