use Rattle.std.proofs.Common.{◌≡◌, length}
use Rattle.mh_cause.specs.Details.{member_detail}
use Rattle.mh_cause.proofs.detail.member_detail.Given as goal

abbrev pub invariant-loop-left : goal.invariant-loop-left
invariant-loop-left l = member_detail (length l.members) l.at l.left ≡ member_detail (length l.fn.members) l.fn.at l.fn.members

abbrev pub decreases-loop-left : goal.decreases-loop-left
decreases-loop-left l = length l.left
