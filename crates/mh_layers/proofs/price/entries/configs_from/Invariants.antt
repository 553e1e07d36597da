use Rattle.std.proofs.Common.{◌≡◌, drop}
use Rattle.mh_laws.specs.Price.{most_price}
use Rattle.mh_prices.specs.Meter.{raise}
use Rattle.mh_layers.specs.Reading.{context_in, there_by}
use Rattle.mh_layers.proofs.price.entries.configs_from.Given as goal

abbrev pub invariant-loop-config : goal.invariant-loop-config
invariant-loop-config g l =
    let m = g.M.Meter.meter l.meter in
    raise m (most_price (λ c. there_by (context_in l.numbered_service c) l.source l.kind l.hears) (drop l.config-index l.configs)) (g.M.Meter.marked l.mark, g.M.Meter.seen l.sum)
    ≡ raise m (most_price (λ c. there_by (context_in l.numbered_service c) l.source l.kind l.hears) l.configs) (g.M.Meter.marked l.initial.mark, g.M.Meter.seen l.initial.sum)
