use Rattle.std.proofs.Common.{◌≡◌, drop}
use Rattle.std.specs.List.{flat_map}
use Rattle.indexmap.specs.IndexSet.{insert_all}
use Rattle.mh_alive.specs.Tellings.{same_telling, tellings}
use Rattle.mh_alive.proofs.tellings.put_each.Given as goal

abbrev pub invariant-loop-at : goal.invariant-loop-at
invariant-loop-at l =
    insert_all same_telling l.told.keys (flat_map (tellings l.kinds) (drop l.at-index l.objects)) ≡ insert_all same_telling l.initial.told.keys (flat_map (tellings l.kinds) l.objects)
