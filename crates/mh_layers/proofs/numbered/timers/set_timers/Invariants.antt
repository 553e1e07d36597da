use Rattle.std.proofs.Common.{◌≡◌, ◌++◌, drop}
use Rattle.std.specs.List.{flat_map}
use Rattle.mh_flow.specs.Solved.{flow_in}
use Rattle.mh_layers.specs.SetTimers.{set_in}
use Rattle.mh_layers.proofs.numbered.timers.set_timers.Given as goal

abbrev pub invariant-loop-config : goal.invariant-loop-config
invariant-loop-config l =
    l.timers.items ++ flat_map (set_in l.service (flow_in l.service l.flow)) (drop l.config-index l.all) ≡ flat_map (set_in l.service (flow_in l.service l.flow)) l.all
