use Rattle.mh_flow.proofs.ChainLemmas.{brought_is_held, held_is_brought}
use Rattle.mh_flow.proofs.law.chains_say_what_is_held.Goals as goal

pub returns-clause-held : goal.returns-clause-held
returns-clause-held c = brought_is_held

pub returns-clause-brought : goal.returns-clause-brought
returns-clause-brought c = held_is_brought
