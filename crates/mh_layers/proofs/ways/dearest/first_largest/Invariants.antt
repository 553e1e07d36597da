use Rattle.mh_layers.specs.Choosing.{IsLargestTo}
use Rattle.mh_layers.proofs.ways.dearest.first_largest.Given as goal

abbrev pub invariant-loop-place : goal.invariant-loop-place
invariant-loop-place l = IsLargestTo l.numbers l.place l.best
