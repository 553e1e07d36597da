use Rattle.std.proofs.Common.{◌≡◌, map, take}
use Rattle.mh_flow.specs.Solved.{named_in}
use Rattle.mh_flow.proofs.lists.Lists.of.Given as goal

abbrev pub invariant-loop-node : goal.invariant-loop-node
invariant-loop-node l = l.lists ≡ map (named_in l.chart.members) (take l.node l.sets)
