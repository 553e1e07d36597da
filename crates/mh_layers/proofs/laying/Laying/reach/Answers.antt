use Rattle.std.proofs.Common.{sym}
use Rattle.mh_layers.proofs.LayingLemmas.{none_found}
use Rattle.mh_layers.proofs.LoopLemmas.{loop_found}
use Rattle.mh_layers.proofs.laying.Laying.reach.Goals as goal

pub returns-else-has_all-2-clause-cycle : goal.returns-else-has_all-2-clause-cycle
returns-else-has_all-2-clause-cycle g c cycle =
    none_found _ _ c.places.new.self c.rounds.new.self c.args.roots.now c.requires.counted c.in_ok-rounds.ensures.waiting c.rounds.ensures.grows c.requires.kept c.in_ok-places.ensures.there (sym c.if-has_all-2.ensures)

pub returns-else-has_all-2-clause-looped : goal.returns-else-has_all-2-clause-looped
returns-else-has_all-2-clause-looped g c cycle =
    loop_found _ _ c.places.new.self c.rounds.new.self c.args.roots.now c.requires.counted c.in_ok-rounds.ensures.waiting c.rounds.ensures.grows c.requires.kept c.in_ok-places.ensures.there (sym c.if-has_all-2.ensures)
