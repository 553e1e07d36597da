use Rattle.std.proofs.Common.{◌++◌, ap, ◌∙◌, ◌+◌, drop, List}
use Rattle.std.specs.List.{flat_map}
use Rattle.mh_model.specs.declared.act.Act.{Act}
use Rattle.mh_model.specs.declared.object.member.Member.{Member}
use Rattle.mh_model.specs.Tokens.{member_actions}
use Rattle.mh_flow.proofs.SiteLemmas.{behind, drop_next}
use Rattle.mh_lint.proofs.uses.objects.push_members.Goals as goal

pub loop-member-preserved : goal.loop-member-preserved
loop-member-preserved c =
    let old = c.loop-member.all.items in
    let rest = flat_map member_actions (drop (c.loop-member.member-index + 1) c.args.members.now) in
    let joined = λ (slots : List (List Act)). flat_map (λ (slot : List Act). slot) slots in
    ap (λ (t : List Act). t ++ rest) c.in_ok-push_slots.ensures
    ∙ behind old (joined c.as_slice.result.now) rest
    ∙ ap (λ (x : List (List Act)). old ++ (joined x ++ rest)) c.as_slice.ensures
    ∙ ap (λ (t : List Member). old ++ flat_map member_actions t) (drop_next c.args.members.now c.loop-member.member-index c.member-item.result c.loop-member-test.true c.member-item.is)
    ∙ c.loop-member.invariant
