use Rattle.std.specs.List.{flat_map}
use Rattle.std.proofs.Common.{◌≡◌, length}
use Rattle.mh_evidence.specs.Counting.{all_counted}
use Rattle.mh_evidence.proofs.sites.count_members.Given as goal

abbrev pub invariant-loop-member : goal.invariant-loop-member
invariant-loop-member l = all_counted l.part.key l.number l.left (flat_map (λ m. m.slots) l.members) ≡ all_counted l.part.key l.number l.fn.left (flat_map (λ m. m.slots) l.fn.members)

abbrev pub decreases-loop-member : goal.decreases-loop-member
decreases-loop-member l = length l.members
