use Rattle.std.specs.Prelude.{IfOk, Result}
use Rattle.std.proofs.Common.{subst, sym}
use Rattle.mh_model.specs.Service.{Service}
use Rattle.mh_told.specs.declared.unplayable.Unplayable.{Unplayable}
use Rattle.mh_why.specs.Verdict.{IsVerdictOn}
use Rattle.mh_why.proofs.VerdictLemmas.{unreadable_so}
use Rattle.mh_why.proofs.verdict.verdict_on.Goals as goal

pub returns-in-Ok : goal.returns-in-Ok
returns-in-Ok c = subst (λ (r : Result Service Unplayable). IfOk c.verified.result (IsVerdictOn r)) (sym c.in-Ok.ensures) c.verified.ensures

pub returns-in_default : goal.returns-in_default
returns-in_default c = unreadable_so c.in-Err.why _ c.in-Err.ensures c.in_default.not-NoMemory
