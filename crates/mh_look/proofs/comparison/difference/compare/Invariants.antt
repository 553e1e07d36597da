use Rattle.std.proofs.Common.{◌≡◌, ◌+◌, ◌<◌, ◌^◌, length}
use Rattle.mh_look.specs.Frames.{difference_behind, pictures}
use Rattle.mh_look.proofs.comparison.difference.compare.Given as goal

abbrev pub invariant-loop-one : goal.invariant-loop-one
invariant-loop-one l = record {
  room : l.passed + length l.ones < 2 ^ 64;
  left : difference_behind l.passed (pictures l.ones) (pictures l.others) ≡ difference_behind 0 (pictures l.fn.first) (pictures l.fn.second);
}

abbrev pub decreases-loop-one : goal.decreases-loop-one
decreases-loop-one l = length l.ones
