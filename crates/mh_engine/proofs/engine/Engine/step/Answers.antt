use Rattle.std.specs.Prelude.{◌≡◌, true, false, IfOk}
use Rattle.std.proofs.Common.{subst}
use Rattle.mh_machine.specs.Rest.{is_faulted}
use Rattle.mh_engine.specs.Play.{IsKept, Play}
use Rattle.mh_engine.proofs.SafeEngine.{keeps_either_step, kept_faultless, kept_front}
use Rattle.mh_engine.proofs.engine.Engine.step.Goals as goal

pub step_by-answer-requires : goal.step_by-answer-requires
step_by-answer-requires c = record { free = kept_front _ c.self.invariant }

pub invariant_of-self : goal.invariant_of-self
invariant_of-self c =
    keeps_either_step _ _ _ c.self.inside.machine c.step_by-answer.new.machine c.step_by-answer.result c.step_by-answer.ensures.room c.step_by-answer.ensures.step c.step_by-answer.ensures.kept c.self.invariant

pub returns-clause-never : goal.returns-clause-never
returns-clause-never c = kept_front c.args.self.now (subst IsKept c.self.view_is c.self.invariant)

pub returns-clause-faultless : goal.returns-clause-faultless
returns-clause-faultless c =
    subst (λ (p : Play). IfOk c.step_by-answer.result (λ a. p.accepted ≡ true → is_faulted a ≡ false)) c.self.view_is (kept_faultless _ c.step_by-answer.result c.self.invariant c.step_by-answer.ensures.answer)
