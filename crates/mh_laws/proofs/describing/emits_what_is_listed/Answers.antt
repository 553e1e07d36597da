use Rattle.mh_laws.proofs.ComingLemmas.{lists_emitted}
use Rattle.mh_laws.proofs.EmittingLemmas.{emits_listed}
use Rattle.mh_laws.proofs.describing.emits_what_is_listed.Goals as goal

pub returns-clause-each : goal.returns-clause-each
returns-clause-each c = emits_listed

pub returns-clause-all : goal.returns-clause-all
returns-clause-all c = lists_emitted
