use Rattle.mh_seal_laws.proofs.PartLemmas.{shown_alike, step_beside, stuck_alike}
use Rattle.mh_seal_laws.proofs.law.not_looked_at.Goals as goal

pub returns-clause-law : goal.returns-clause-law
returns-clause-law c = step_beside

pub returns-clause-stuck : goal.returns-clause-stuck
returns-clause-stuck c = stuck_alike

pub returns-clause-shown : goal.returns-clause-shown
returns-clause-shown c = shown_alike
