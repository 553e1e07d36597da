use Rattle.std.proofs.Common.{◌≡◌, ◌++◌, drop, suc, length}
use Rattle.std.specs.List.{flat_map}
use Rattle.mh_model.specs.declared.object.member.Member.{Member}
use Rattle.mh_flow.specs.Sites.{through_effects}
use Rattle.mh_flow.proofs.sites.push_members.Given as goal

abbrev pub invariant-loop-member : goal.invariant-loop-member
invariant-loop-member l = l.sites.items ++ through_effects l.key (suc (length l.sites.items)) (flat_map (λ (m : Member). m.slots) (drop l.member-index l.members)) ≡ l.initial.sites.items ++ through_effects l.key (suc (length l.initial.sites.items)) (flat_map (λ (m : Member). m.slots) l.members)
