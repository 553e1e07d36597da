use Rattle.std.proofs.Common.{arith, ◌≡◌, ◌∙◌, ℕ, List, length, take, ap, sym, subst}
use Rattle.std.specs.List.{Contains}
use Rattle.std.proofs.lemmas.List.{take_all}
use Rattle.mh_flow.specs.declared.fixpoint.constraints.Item.TheVariants as item
use Rattle.mh_flow.specs.Gathering.{view}
use Rattle.mh_flow.proofs.StepLemmas.{same_step, open_next, among_at}
use Rattle.mh_flow.proofs.fixpoint.gathered.Gathered.open_each.Goals as goal

pub loop-member-init : goal.loop-member-init
loop-member-init g c = record { sound = c.requires.sound; step = same_step (g.R.Rules.system c.args.rules.now) (view c.args.self.now); put = λ q h. absurd (omega (arith, h.1)) }

pub open-requires-clause-sound : goal.open-requires-clause-sound
open-requires-clause-sound g c = c.loop-member.invariant.sound

pub open-requires-clause-known : goal.open-requires-clause-known
open-requires-clause-known g c =
    c.loop-member.invariant.step.grows (item.Member (record { node = c.args.node; member = _ })) (c.requires.known _ (among_at c.args.members.now c.loop-member.member-index _ c.loop-member-test.true))

pub loop-member-preserved : goal.loop-member-preserved
loop-member-preserved g c =
    open_next (g.R.Rules.system c.args.rules.now) c.args.node c.args.members.now c.loop-member.member-index _ (view c.args.self.now) (view c.loop-member.self) (view c.open.new.self) c.loop-member-test.true c.loop-member.invariant c.in_ok-open.ensures.sound c.in_ok-open.ensures.step c.in_ok-open.ensures.opened

pub returns-clause-sound : goal.returns-clause-sound
returns-clause-sound g c = c.loop-member.invariant.sound

pub returns-clause-step : goal.returns-clause-step
returns-clause-step g c = c.loop-member.invariant.step

pub returns-clause-opened : goal.returns-clause-opened
returns-clause-opened g c q h =
    let done : c.loop-member.member-index ≡ length c.args.members.now = omega (arith, c.loop-member-test.false, c.loop-member.auto) in
    c.loop-member.invariant.put q (subst (λ (t : List ℕ). Contains t q) (sym (ap (λ (n : ℕ). take n c.args.members.now) done ∙ take_all (length c.args.members.now) c.args.members.now (omega arith))) h)
