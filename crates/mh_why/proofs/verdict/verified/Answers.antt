use Rattle.mh_why.proofs.VerdictLemmas.{accepted_so, refused_so}
use Rattle.mh_why.proofs.verdict.verified.Goals as goal

pub returns-in-Ok : goal.returns-in-Ok
returns-in-Ok c = accepted_so _ _ _ c.in-Ok.ensures.same c.bounds.ensures.same c.in-Ok.ensures.verified

pub returns-in_default : goal.returns-in_default
returns-in_default c = refused_so _ _ c.in-Err.ensures.told c.in_default.not-NoMemory
