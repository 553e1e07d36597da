use Rattle.std.proofs.Common.{◌≡◌, drop, fold}
use Rattle.mh_flow.specs.Solved.{flow_in}
use Rattle.mh_alive.specs.Gathering.{with_config}
use Rattle.mh_alive.proofs.gathering.Gathered.put_configs.Given as goal

abbrev pub invariant-loop-config : goal.invariant-loop-config
invariant-loop-config l =
    fold (with_config l.service (flow_in l.service l.flow)) l.self (drop l.config-index l.configs) ≡ fold (with_config l.service (flow_in l.service l.flow)) l.initial.self l.configs
