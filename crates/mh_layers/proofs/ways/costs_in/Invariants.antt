use Rattle.std.proofs.Common.{◌≡◌, ◌++◌, drop, map}
use Rattle.mh_layers.specs.Taking.{taken_laid}
use Rattle.mh_layers.proofs.ways.costs_in.Given as goal

abbrev pub invariant-loop-config : goal.invariant-loop-config
invariant-loop-config l =
    l.costs.items ++ map (taken_laid l.numbered_service l.laying l.kind) (drop l.config-index l.configs)
    ≡ map (taken_laid l.numbered_service l.laying l.kind) l.configs
