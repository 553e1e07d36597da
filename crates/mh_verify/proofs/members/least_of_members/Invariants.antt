use Rattle.std.proofs.Common.{◌≡◌, drop, map}
use Rattle.std.specs.List.{flat_map}
use Rattle.mh_laws.specs.Active.{member_wrongs}
use Rattle.mh_verify.specs.Refusals.{found_of_part}
use Rattle.mh_verify.specs.Least.{least_of}
use Rattle.mh_verify.proofs.members.least_of_members.Given as goal

abbrev pub invariant-loop-member : goal.invariant-loop-member
invariant-loop-member l =
    least_of l.best (map (found_of_part l.scope.config.now l.key) (flat_map (member_wrongs l.scope.present) (drop l.member-index l.members)))
    ≡ least_of l.fn.best (map (found_of_part l.scope.config.now l.key) (flat_map (member_wrongs l.scope.present) l.members))
