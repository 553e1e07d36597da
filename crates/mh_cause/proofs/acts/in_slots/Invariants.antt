use Rattle.std.proofs.Common.{◌≡◌, length}
use Rattle.mh_cause.specs.Acts.{in_slots}
use Rattle.mh_cause.proofs.acts.in_slots.Given as goal

abbrev pub invariant-loop-left : goal.invariant-loop-left
invariant-loop-left l = in_slots l.before l.left ≡ in_slots l.fn.before l.fn.slots

abbrev pub decreases-loop-left : goal.decreases-loop-left
decreases-loop-left l = length l.left
