use Rattle.std.proofs.Common.{◌≡◌, ◌++◌, drop, map}
use Rattle.std.specs.List.{flat_map}
use Rattle.mh_flow.specs.Chart.{member_of}
use Rattle.mh_flow.specs.Opening.{member_at}
use Rattle.mh_flow.proofs.opening.reaching.push_members.Given as goal

abbrev pub invariant-loop-member : goal.invariant-loop-member
invariant-loop-member l =
    l.items.items ++ flat_map (λ q. member_at l.node (member_of l.chart q)) (map (λ m. m.object) (drop l.member-index l.members))
    ≡ l.initial.items.items ++ flat_map (λ q. member_at l.node (member_of l.chart q)) (map (λ m. m.object) l.members)
