use Rattle.std.proofs.Common.{◌≡◌, ◌≤◌, length}
use Rattle.mh_look.specs.Frames.{pictures}
use Rattle.mh_look.proofs.report.frames.next_frame.Given as goal

abbrev pub invariant-loop-part : goal.invariant-loop-part
invariant-loop-part l = record {
  shorter : length l.left ≤ length l.fn.parts;
  same : pictures l.left ≡ pictures l.fn.parts;
}

abbrev pub decreases-loop-part : goal.decreases-loop-part
decreases-loop-part l = length l.left
