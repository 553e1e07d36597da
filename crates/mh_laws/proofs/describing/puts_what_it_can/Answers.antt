use Rattle.mh_laws.proofs.DescribingLemmas.{puts_of}
use Rattle.mh_laws.proofs.LeadingLemmas.{rules_put}
use Rattle.mh_laws.proofs.describing.puts_what_it_can.Goals as goal

pub returns-clause-pieces : goal.returns-clause-pieces
returns-clause-pieces c = puts_of

pub returns-clause-rule : goal.returns-clause-rule
returns-clause-rule c = rules_put
