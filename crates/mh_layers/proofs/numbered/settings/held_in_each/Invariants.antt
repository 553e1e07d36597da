use Rattle.std.proofs.Common.{◌≡◌, ◌++◌, drop, map}
use Rattle.mh_flow.specs.Solved.{held_in}
use Rattle.mh_layers.proofs.numbered.settings.held_in_each.Given as goal

abbrev pub invariant-loop-config : goal.invariant-loop-config
invariant-loop-config l =
    l.held.items ++ map (held_in l.service l.flow) (drop l.config-index l.configs) ≡ map (held_in l.service l.flow) l.configs
