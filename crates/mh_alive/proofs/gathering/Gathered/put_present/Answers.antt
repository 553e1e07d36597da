use Rattle.std.proofs.Common.{◌∙◌}
use Rattle.mh_alive.specs.There.{sets_there}
use Rattle.mh_alive.proofs.GatheringLemmas.{there_gathered}
use Rattle.mh_alive.proofs.gathering.Gathered.put_present.Goals as goal

pub returns : goal.returns
returns c =
    there_gathered (sets_there (record { present = c.args.present.now; lists = c.args.held.now })) _ _ _ _ c.parts.result.0.now c.parts.result.1.now c.args.present.now c.as_slice.result.now
    c.parts.ensures (c.as_slice.ensures.value ∙ c.in_ok-sites.ensures) c.in_ok-put_parts.ensures c.in_ok-put_parts-2.ensures c.in_ok-put_sites.ensures
