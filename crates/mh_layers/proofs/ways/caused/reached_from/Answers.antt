use Rattle.mh_layers.proofs.CausedLemmas.{opened_kept}
use Rattle.mh_layers.proofs.ways.caused.reached_from.Goals as goal

pub put_counted-requires : goal.put_counted-requires
put_counted-requires c = c.requires.root.has

pub open_at-requires-clause-kept : goal.open_at-requires-clause-kept
open_at-requires-clause-kept c =
    opened_kept c.args.numbered_service.now c.requires.reading c.args.root.now c.loop-found.found.keys c.loop-found.place c.requires.root c.loop-found.invariant
