use Rattle.std.proofs.Common.{◌≡◌, ◌++◌, length}
use Rattle.mh_misread.specs.Telling.{needs_written}
use Rattle.mh_misread.proofs.wanted.put_needs_written.Given as goal

abbrev pub invariant-loop-left : goal.invariant-loop-left
invariant-loop-left l = l.text ++ needs_written l.optional l.left ≡ l.fn.text ++ needs_written l.optional l.needs

abbrev pub decreases-loop-left : goal.decreases-loop-left
decreases-loop-left l = length l.left
