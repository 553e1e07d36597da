use Rattle.std.proofs.Common.{◌≡◌, drop}
use Rattle.std.specs.List.{list_any}
use Rattle.mh_flow.specs.Steps.{is_one_of}
use Rattle.mh_flow.proofs.chain.sought.is_member.Given as goal

abbrev pub invariant-loop-member : goal.invariant-loop-member
invariant-loop-member l = list_any (λ m. is_one_of l.sought.keys m.object) (drop l.member-index l.members) ≡ list_any (λ m. is_one_of l.sought.keys m.object) l.members
