use Rattle.std.proofs.Common.{◌≡◌, drop}
use Rattle.indexmap.specs.IndexSet.{insert_all}
use Rattle.mh_alive.specs.Tellings.{same_telling, tellings}
use Rattle.mh_alive.proofs.tellings.put_kinds.Given as goal

abbrev pub invariant-loop-kind : goal.invariant-loop-kind
invariant-loop-kind l =
    insert_all same_telling l.told.keys (tellings (drop l.kind-index l.kinds) l.at) ≡ insert_all same_telling l.initial.told.keys (tellings l.kinds l.at)
