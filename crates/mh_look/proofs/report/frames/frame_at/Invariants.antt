use Rattle.std.proofs.Common.{◌≡◌, length}
use Rattle.std.specs.Prelude.{slice_get}
use Rattle.mh_look.specs.Frames.{frame_at, pictures}
use Rattle.mh_look.proofs.report.frames.frame_at.Given as goal

abbrev pub invariant-loop-picture : goal.invariant-loop-picture
invariant-loop-picture l = slice_get (pictures l.rest) l.left ≡ frame_at l.fn.number l.fn.parts

abbrev pub decreases-loop-picture : goal.decreases-loop-picture
decreases-loop-picture l = length l.rest
