use Rattle.std.proofs.Common.{◌≡◌, ◌++◌, length}
use Rattle.mh_misread.specs.Telling.{escapes}
use Rattle.mh_misread.proofs.found.put_escapes.Given as goal

abbrev pub invariant-loop-left : goal.invariant-loop-left
invariant-loop-left l = l.text ++ escapes l.left ≡ l.fn.text ++ escapes l.bytes

abbrev pub decreases-loop-left : goal.decreases-loop-left
decreases-loop-left l = length l.left
