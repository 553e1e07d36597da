use Rattle.mh_flow.proofs.ChainStepLemmas.{brings_follows, follows_brings}
use Rattle.mh_flow.proofs.law.moves_say_what_is_brought.Goals as goal

pub returns-clause-bring : goal.returns-clause-bring
returns-clause-bring c = follows_brings

pub returns-clause-moves : goal.returns-clause-moves
returns-clause-moves c = brings_follows
