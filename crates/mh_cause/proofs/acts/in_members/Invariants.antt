use Rattle.std.proofs.Common.{◌≡◌, length}
use Rattle.mh_cause.specs.Acts.{in_members}
use Rattle.mh_cause.proofs.acts.in_members.Given as goal

abbrev pub invariant-loop-left : goal.invariant-loop-left
invariant-loop-left l = in_members l.before l.left ≡ in_members l.fn.before l.fn.members

abbrev pub decreases-loop-left : goal.decreases-loop-left
decreases-loop-left l = length l.left
