use Rattle.std.proofs.Common.{arith, ◌≡◌, ◌∙◌, ℕ, List, length, take, ap, sym, subst}
use Rattle.std.specs.List.{Contains}
use Rattle.std.proofs.lemmas.List.{take_all}
use Rattle.mh_flow.specs.declared.fixpoint.constraints.Item.{Item}
use Rattle.mh_flow.specs.Gathering.{view}
use Rattle.mh_flow.proofs.StepLemmas.{same_step, put_next}
use Rattle.mh_flow.proofs.fixpoint.gathered.Gathered.put_each.Goals as goal

pub loop-item-init : goal.loop-item-init
loop-item-init g c = record { sound = c.requires.sound; step = same_step (g.R.Rules.system c.args.rules.now) (view c.args.self.now); put = λ x h. absurd (omega (arith, h.1)) }

pub put-requires-clause-sound : goal.put-requires-clause-sound
put-requires-clause-sound g c = c.loop-item.invariant.sound

pub loop-item-preserved : goal.loop-item-preserved
loop-item-preserved g c =
    put_next (g.R.Rules.system c.args.rules.now) c.args.items.now c.loop-item.item-index _ (view c.args.self.now) (view c.loop-item.self) (view c.put.new.self) c.loop-item-test.true c.loop-item.invariant c.in_ok-put.ensures.sound c.in_ok-put.ensures.step c.in_ok-put.ensures.put

pub returns-clause-sound : goal.returns-clause-sound
returns-clause-sound g c = c.loop-item.invariant.sound

pub returns-clause-step : goal.returns-clause-step
returns-clause-step g c = c.loop-item.invariant.step

pub returns-clause-put : goal.returns-clause-put
returns-clause-put g c x h =
    let done : c.loop-item.item-index ≡ length c.args.items.now = omega (arith, c.loop-item-test.false, c.loop-item.auto) in
    c.loop-item.invariant.put x (subst (λ (t : List Item). Contains t x) (sym (ap (λ (n : ℕ). take n c.args.items.now) done ∙ take_all (length c.args.items.now) c.args.items.now (omega arith))) h)
