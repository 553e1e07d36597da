use Rattle.std.proofs.Common.{◌≡◌, length}
use Rattle.mh_misread.specs.Held.{first_keyword}
use Rattle.mh_misread.proofs.slip.held.first_keyword.Given as goal

abbrev pub decreases-loop-left : goal.decreases-loop-left
decreases-loop-left l = length l.left

abbrev pub invariant-loop-left : goal.invariant-loop-left
invariant-loop-left l = first_keyword l.left ≡ first_keyword l.bytes
