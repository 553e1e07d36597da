use Rattle.std.proofs.Common.{◌≡◌, length}
use Rattle.mh_cause.specs.Acts.{left_behind}
use Rattle.mh_cause.proofs.acts.left_behind.Given as goal

abbrev pub invariant-loop-left : goal.invariant-loop-left
invariant-loop-left l = left_behind l.before l.left ≡ left_behind l.fn.before l.fn.slots

abbrev pub decreases-loop-left : goal.decreases-loop-left
decreases-loop-left l = length l.left
