use Rattle.std.proofs.Common.{◌≡◌, length}
use Rattle.mh_trace.specs.Glance.{same_refs}
use Rattle.mh_trace.proofs.seen.glance.are_same_refs.Given as goal

abbrev pub invariant-loop-other : goal.invariant-loop-other
invariant-loop-other l = same_refs l.before l.left ≡ same_refs l.initial.before l.initial.left

abbrev pub decreases-loop-other : goal.decreases-loop-other
decreases-loop-other l = length l.left
