use Rattle.std.proofs.Common.{◌≡◌, ◌++◌, length}
use Rattle.mh_stack.proofs.stack.copied.Given as goal

abbrev pub invariant-loop-at : goal.invariant-loop-at
invariant-loop-at l = l.fresh.places ++ l.left ≡ l.initial.left

abbrev pub decreases-loop-at : goal.decreases-loop-at
decreases-loop-at l = length l.left
