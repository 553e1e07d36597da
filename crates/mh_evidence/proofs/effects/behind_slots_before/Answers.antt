use Rattle.std.proofs.Common.{◌≤◌, List, length, arith}
use Rattle.mh_model.specs.declared.act.Act.{Act}
use Rattle.mh_model.specs.declared.object.member.Member.{Member}
use Rattle.mh_evidence.proofs.EffectLemmas.{taken_behind}
use Rattle.mh_evidence.proofs.effects.behind_slots_before.Goals as goal

pub returns-in_default : goal.returns-in_default
returns-in_default c =
    λ fits.
    let far : length c.as_slice-slots.result.now ≤ c.loop-member.slots_left = omega (arith, c.if-slots_left-slots.false) in
    let parted = taken_behind (λ (m : Member). m.slots) (λ (e : List Act). length e) c.args.members.now c.loop-member.member-index c.loop-member.slots_left c.member-item.result c.as_slice-slots.result.now c.loop-member-test.true c.member-item.is c.as_slice-slots.ensures far in
    c.in_default.ensures (omega (arith, fits, c.loop-member.invariant, parted))

pub loop-member-preserved : goal.loop-member-preserved
loop-member-preserved c =
    let far : length c.as_slice-slots.result.now ≤ c.loop-member.slots_left = omega (arith, c.if-slots_left-slots.false) in
    let parted = taken_behind (λ (m : Member). m.slots) (λ (e : List Act). length e) c.args.members.now c.loop-member.member-index c.loop-member.slots_left c.member-item.result c.as_slice-slots.result.now c.loop-member-test.true c.member-item.is c.as_slice-slots.ensures far in
    omega (arith, c.in-Some.ensures.0, c.in-Some.ensures.1, c.loop-member.invariant, parted)
