use Rattle.std.proofs.Common.{Some, List, ap, ◌∙◌}
use Rattle.mh_model.specs.declared.act.Act.{Act}
use Rattle.mh_model.specs.declared.object.member.Member.{Member}
use Rattle.mh_evidence.proofs.EffectLemmas.{found_behind, found_next}
use Rattle.mh_evidence.proofs.effects.slot_at.Goals as goal

pub returns-then-left-slots : goal.returns-then-left-slots
returns-then-left-slots c =
    ap (λ (x : List Act). Some x) c.as_slice.ensures
    ∙ found_next (λ (m : Member). m.slots) c.args.members.now c.loop-member.member-index c.loop-member.left c.member-item.result c.as_slice-slots.result.now c.index-slots-left.result c.loop-member-test.true c.member-item.is c.as_slice-slots.ensures c.if-left-slots.true c.index-slots-left.is
    ∙ c.loop-member.invariant

pub loop-member-preserved : goal.loop-member-preserved
loop-member-preserved c =
    found_behind (λ (m : Member). m.slots) c.args.members.now c.loop-member.member-index c.loop-member.left c.member-item.result c.as_slice-slots.result.now c.loop-member-test.true c.member-item.is c.as_slice-slots.ensures c.if-left-slots.false
    ∙ c.loop-member.invariant
