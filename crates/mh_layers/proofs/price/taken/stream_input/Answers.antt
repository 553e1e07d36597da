use Rattle.std.proofs.Common.{ap}
use Rattle.mh_model.specs.Configuration.{present}
use Rattle.mh_laws.specs.Price.{One, Plus, sum_price}
use Rattle.mh_prices.specs.Meter.{onto}
use Rattle.mh_layers.specs.Inputs as inputs
use Rattle.mh_layers.specs.Numbered.{through}
use Rattle.mh_layers.specs.Reading.{around_at, number}
use Rattle.mh_layers.proofs.OntoLemmas.{adds_as}
use Rattle.mh_layers.proofs.price.taken.stream_input.Goals as goal

pub returns : goal.returns
returns g c =
    let s = c.args.walk.now.here.now in
    let m = through (number s.reading) (g.M.Meter.meter c.args.walk.now.meter.now) in
    let p = sum_price (inputs.stream_told (around_at s).lists.view) (present s.reading.service s.config) in
    adds_as g.M.Meter.seen m m p (Plus One p) c.args.sum c.one.result c.all_streams.result (ap (onto m p) c.one.ensures) c.all_streams.ensures
