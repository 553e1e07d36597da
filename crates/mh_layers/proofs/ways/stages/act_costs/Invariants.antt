use Rattle.std.proofs.Common.{◌≡◌, ◌++◌, drop, map}
use Rattle.mh_layers.specs.Staging.{act_worth, all_known}
use Rattle.mh_layers.proofs.ways.stages.act_costs.Given as goal

abbrev pub invariant-loop-each : goal.invariant-loop-each
invariant-loop-each l =
    all_known l.found.items ++ map (act_worth l.here.reading l.costs l.here.config) (drop l.each-index l.acts)
    ≡ map (act_worth l.here.reading l.costs l.here.config) l.acts
