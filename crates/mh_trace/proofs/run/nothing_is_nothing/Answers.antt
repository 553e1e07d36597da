use Rattle.mh_trace.proofs.NothingLemmas.{nothing_so}
use Rattle.mh_trace.proofs.run.nothing_is_nothing.Goals as goal

pub returns : goal.returns
returns c = nothing_so
