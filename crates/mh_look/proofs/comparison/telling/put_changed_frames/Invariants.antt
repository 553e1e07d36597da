use Rattle.std.proofs.Common.{◌≡◌, ◌+◌, ◌<◌, ◌^◌, ◌++◌, length}
use Rattle.mh_look.specs.Frames.{pictures}
use Rattle.mh_look.specs.Telling.{changed_frames}
use Rattle.mh_look.proofs.comparison.telling.put_changed_frames.Given as goal

abbrev pub invariant-loop-one : goal.invariant-loop-one
invariant-loop-one l = record {
  room : l.passed + length l.ones < 2 ^ 64;
  left : l.text ++ changed_frames l.passed (pictures l.ones) (pictures l.others) ≡ l.initial.text ++ changed_frames 0 (pictures l.fn.first) (pictures l.fn.second);
}

abbrev pub decreases-loop-one : goal.decreases-loop-one
decreases-loop-one l = length l.ones
