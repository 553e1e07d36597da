use Rattle.std.proofs.Common.{◌≡◌, ◌++◌, drop, map}
use Rattle.mh_lint.specs.Uses.{member_target}
use Rattle.mh_lint.proofs.uses.reading.push_members.Given as goal

abbrev pub invariant-loop-member : goal.invariant-loop-member
invariant-loop-member l =
    l.targets.items ++ map member_target (drop l.member-index l.members) ≡ l.initial.targets.items ++ map member_target l.members
