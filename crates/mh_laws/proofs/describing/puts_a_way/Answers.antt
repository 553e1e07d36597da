use Rattle.mh_laws.proofs.WayLemmas.{way_of}
use Rattle.mh_laws.proofs.describing.puts_a_way.Goals as goal

pub returns : goal.returns
returns c = way_of
