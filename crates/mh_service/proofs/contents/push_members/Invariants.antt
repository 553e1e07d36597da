use Rattle.std.proofs.Common.{◌≡◌, ◌++◌, drop}
use Rattle.std.specs.List.{flat_map}
use Rattle.mh_service.specs.Contents.{member_files}
use Rattle.mh_service.proofs.contents.push_members.Given as goal

abbrev pub invariant-loop-member : goal.invariant-loop-member
invariant-loop-member l = l.named.items ++ flat_map member_files (drop l.member-index l.members) ≡ l.initial.named.items ++ flat_map member_files l.members
