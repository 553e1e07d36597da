use Rattle.std.proofs.Common.{◌≡◌, drop}
use Rattle.mh_laws.specs.Price.{sum_price}
use Rattle.mh_prices.specs.Meter.{onto}
use Rattle.mh_laws.specs.Costs.{is_group_in}
use Rattle.mh_layers.specs.Inputs as inputs
use Rattle.mh_layers.specs.Numbered.{through}
use Rattle.mh_layers.specs.Reading.{around_at, number}
use Rattle.mh_layers.proofs.price.taken.timers_due.Given as goal

abbrev pub invariant-loop-timer : goal.invariant-loop-timer
invariant-loop-timer g l =
    let s = l.walk.here.now in
    let m = through (number s.reading) (g.M.Meter.meter l.walk.meter.now) in
    onto m (sum_price (inputs.timer_due (around_at s).lists.view (is_group_in s.config)) (drop l.timer-index l.timers)) (g.M.Meter.seen l.sum) ≡ onto m (sum_price (inputs.timer_due (around_at s).lists.view (is_group_in s.config)) l.timers) (g.M.Meter.seen l.initial.sum)
