use Rattle.std.proofs.Common.{◌≡◌, drop, map}
use Rattle.mh_flow.specs.Chart.{with_references}
use Rattle.mh_flow.proofs.references.put_members.Given as goal

abbrev pub invariant-loop-member : goal.invariant-loop-member
invariant-loop-member l = with_references l.held.keys (map (λ m. m.object) (drop l.member-index l.members)) ≡ with_references l.initial.held.keys (map (λ m. m.object) l.members)
