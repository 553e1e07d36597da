use Rattle.std.proofs.Common.{◌++◌, ap, ◌∙◌, suc, ◌+◌, drop, length, List}
use Rattle.std.specs.List.{flat_map}
use Rattle.mh_model.specs.declared.act.Act.{Act}
use Rattle.mh_model.specs.declared.object.member.Member.{Member}
use Rattle.mh_flow.specs.Sites.{through_effects}
use Rattle.mh_flow.proofs.SiteLemmas.{slots_behind, drop_next}
use Rattle.mh_flow.proofs.sites.push_members.Goals as goal

pub loop-member-preserved : goal.loop-member-preserved
loop-member-preserved c =
    let old = c.loop-member.sites.items in
    let behind = flat_map (λ (m : Member). m.slots) (drop (c.loop-member.member-index + 1) c.args.members.now) in
    slots_behind c.args.key.now old c.push_slots.new.sites.items c.as_slice.result.now behind c.in_ok-push_slots.ensures
    ∙ ap (λ (x : List (List Act)). old ++ through_effects c.args.key.now (suc (length old)) (x ++ behind)) c.as_slice.ensures
    ∙ ap (λ (t : List Member). old ++ through_effects c.args.key.now (suc (length old)) (flat_map (λ (m : Member). m.slots) t)) (drop_next c.args.members.now c.loop-member.member-index c.member-item.result c.loop-member-test.true c.member-item.is)
    ∙ c.loop-member.invariant
