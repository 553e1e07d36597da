use Rattle.mh_layers.proofs.LayeredLemmas.{counted_kept}
use Rattle.mh_layers.proofs.cycle.laid_of.Goals as goal

pub reach-requires-clause-counted : goal.reach-requires-clause-counted
reach-requires-clause-counted c = counted_kept c.args.numbered_service.now c.requires.reading
