use Rattle.std.proofs.Common.{◌≡◌, ◌++◌, drop}
use Rattle.std.specs.List.{flat_map}
use Rattle.mh_lint.specs.Notes.{seen_in}
use Rattle.mh_lint.proofs.seen.push_members.Given as goal

abbrev pub invariant-loop-member : goal.invariant-loop-member
invariant-loop-member l =
    l.seen.items ++ flat_map (seen_in l.late) (drop l.member-index l.members) ≡ l.initial.seen.items ++ flat_map (seen_in l.late) l.members
