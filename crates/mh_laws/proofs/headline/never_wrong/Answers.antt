use Rattle.mh_laws.proofs.BudgetLemmas.{never_wrong, never_wrong_by, each_is_paid, keeps_going}
use Rattle.mh_laws.proofs.SettleLemmas.{settles}
use Rattle.mh_laws.proofs.headline.never_wrong.Goals as goal

pub returns-clause-law : goal.returns-clause-law
returns-clause-law c = never_wrong

pub returns-clause-by : goal.returns-clause-by
returns-clause-by c = never_wrong_by

pub returns-clause-paid : goal.returns-clause-paid
returns-clause-paid c = each_is_paid

pub returns-clause-settles : goal.returns-clause-settles
returns-clause-settles c = settles

pub returns-clause-invariant : goal.returns-clause-invariant
returns-clause-invariant c = keeps_going
