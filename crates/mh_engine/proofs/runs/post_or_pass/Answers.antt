use Rattle.std.specs.Prelude.{◌≡◌, ◌⊎◌, Option}
use Rattle.std.proofs.Common.{inl, inr, ◌∙◌, ap, sym}
use Rattle.mh_model.specs.declared.input.Obstacle.{Obstacle}
use Rattle.mh_model.specs.declared.input.Obstacle.TheVariants as obstacle
use Rattle.mh_model.specs.Step.{posted_by}
use Rattle.mh_laws.specs.Budget.{bound_of, paid_unless}
use Rattle.mh_machine.specs.declared.refusal.RefusedWhy.{RefusedWhy}
use Rattle.mh_machine.specs.declared.refusal.RefusedWhy.TheVariants as refused
use Rattle.mh_machine.specs.Refusal.{refusal_for}
use Rattle.mh_engine.specs.Play.{Play, with_more}
use Rattle.mh_engine.proofs.runs.post_or_pass.Goals as goal

-- what is passed over tells of an obstacle
told : (why : RefusedWhy) → (why ≡ refused.Ended) ⊎ ((why ≡ refused.TickRange) ⊎ ((why ≡ refused.Begun) ⊎ ((why ≡ refused.NotLate) ⊎ ((why ≡ refused.Differs) ⊎ ((why ≡ refused.TooLarge) ⊎ ((why ≡ refused.TooMany) ⊎ ((why ≡ refused.ClockFull) ⊎ (why ≡ refused.QueueFull)))))))) → (o : Obstacle) × (why ≡ refusal_for o)
told why (inl e) = (obstacle.Ended, e)
told why (inr (inl e)) = (obstacle.TickRange, e)
told why (inr (inr (inl e))) = (obstacle.Begun, e)
told why (inr (inr (inr (inl e)))) = (obstacle.NotLate, e)
told why (inr (inr (inr (inr (inl e))))) = (obstacle.Differs, e)
told why (inr (inr (inr (inr (inr (inl e)))))) = (obstacle.TooLarge, e)
told why (inr (inr (inr (inr (inr (inr (inl e))))))) = (obstacle.TooMany, e)
told why (inr (inr (inr (inr (inr (inr (inr (inl e)))))))) = (obstacle.ClockFull, e)
told why (inr (inr (inr (inr (inr (inr (inr (inr e)))))))) = (obstacle.QueueFull, e)

pub returns-in-Ended-clause-made : goal.returns-in-Ended-clause-made
returns-in-Ended-clause-made c =
    let o = told c.why_refused.result c.in-Ended.is in
    let barred = c.in-Err.ensures.barred o.0 (sym c.why_refused.ensures ∙ o.1) in
    ap (λ (p : Play). p.state) c.in-Err.ensures.kept ∙ sym (ap (λ (m : Option Obstacle). posted_by m c.args.input c.args.engine.now.state) barred)

pub returns-in-Ended-clause-budget : goal.returns-in-Ended-clause-budget
returns-in-Ended-clause-budget c =
    let before = c.args.engine.now in
    let o = told c.why_refused.result c.in-Ended.is in
    let barred = c.in-Err.ensures.barred o.0 (sym c.why_refused.ensures ∙ o.1) in
    sym c.vouch.ensures.same ∙ ap (λ (p : Play). with_more p.budget 0) c.in-Err.ensures.kept
    ∙ sym (ap (λ (m : Option Obstacle). with_more before.budget (paid_unless m (bound_of before.bounds c.args.input))) barred)

pub returns-in-Ended-clause-same : goal.returns-in-Ended-clause-same
returns-in-Ended-clause-same c = ap (λ (p : Play). p.accepted) c.in-Err.ensures.kept
