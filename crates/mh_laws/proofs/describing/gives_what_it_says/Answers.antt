use Rattle.mh_laws.proofs.AnsweringLemmas.{answers_items}
use Rattle.mh_laws.proofs.GivingLemmas.{gives_said}
use Rattle.mh_laws.proofs.ItemLemmas.{lists_said}
use Rattle.mh_laws.proofs.describing.gives_what_it_says.Goals as goal

pub returns-clause-given : goal.returns-clause-given
returns-clause-given c = gives_said

pub returns-clause-listed : goal.returns-clause-listed
returns-clause-listed c = lists_said

pub returns-clause-answered : goal.returns-clause-answered
returns-clause-answered c = answers_items
