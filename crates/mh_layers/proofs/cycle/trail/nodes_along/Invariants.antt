use Rattle.std.proofs.Common.{◌≡◌, ◌++◌, drop}
use Rattle.mh_layers.specs.Stretches.{nodes_along}
use Rattle.mh_layers.proofs.cycle.trail.nodes_along.Given as goal

abbrev pub invariant-loop-arrow : goal.invariant-loop-arrow
invariant-loop-arrow l =
    l.along.items ++ nodes_along l.nodes.keys (drop l.arrow-index l.trail) ≡ nodes_along l.nodes.keys l.trail
