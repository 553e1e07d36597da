use Rattle.std.proofs.Common.{◌≡◌, drop, map}
use Rattle.std.specs.List.{flat_map}
use Rattle.mh_laws.specs.Active.{member_wrongs}
use Rattle.mh_verify.specs.Refusals.{found_of_part}
use Rattle.mh_refusals.specs.Places.{listed}
use Rattle.mh_refusals.proofs.members.list_members.Given as goal

abbrev pub invariant-loop-member : goal.invariant-loop-member
invariant-loop-member l =
    listed l.most l.list.items (map (found_of_part l.scope.config.now l.key) (flat_map (member_wrongs l.scope.present) (drop l.member-index l.members)))
    ≡ listed l.most l.initial.list.items (map (found_of_part l.scope.config.now l.key) (flat_map (member_wrongs l.scope.present) l.members))
