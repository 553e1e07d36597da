use Rattle.std.proofs.Common.{◌≡◌, drop}
use Rattle.mh_layers.specs.Taking.{largest_from, taken_laid}
use Rattle.mh_layers.proofs.layers.most_in.Given as goal

abbrev pub invariant-loop-config : goal.invariant-loop-config
invariant-loop-config l =
    largest_from (taken_laid l.numbered_service l.laying l.kind) l.most (drop l.config-index l.configs) ≡ largest_from (taken_laid l.numbered_service l.laying l.kind) 0 l.configs
