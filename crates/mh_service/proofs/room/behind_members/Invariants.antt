use Rattle.std.proofs.Common.{◌≡◌, ◌+◌, drop}
use Rattle.std.specs.List.{sum_by}
use Rattle.mh_service.specs.Limits.{member_actions}
use Rattle.mh_service.proofs.room.behind_members.Given as goal

abbrev pub invariant-loop-member : goal.invariant-loop-member
invariant-loop-member l = l.left + sum_by member_actions l.members ≡ l.room + sum_by member_actions (drop l.member-index l.members)
