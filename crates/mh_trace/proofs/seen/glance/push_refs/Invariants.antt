use Rattle.std.proofs.Common.{◌≡◌, ◌++◌, length}
use Rattle.mh_trace.proofs.seen.glance.push_refs.Given as goal

abbrev pub invariant-loop-at : goal.invariant-loop-at
invariant-loop-at l = l.copy.items ++ l.left ≡ l.initial.copy.items ++ l.initial.left

abbrev pub decreases-loop-at : goal.decreases-loop-at
decreases-loop-at l = length l.left
