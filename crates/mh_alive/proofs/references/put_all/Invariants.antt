use Rattle.std.proofs.Common.{◌≡◌, drop}
use Rattle.indexmap.specs.IndexSet.{insert_all}
use Rattle.mh_model.specs.Reference.{same_key}
use Rattle.mh_alive.proofs.references.put_all.Given as goal

abbrev pub invariant-loop-at : goal.invariant-loop-at
invariant-loop-at l =
    insert_all same_key l.references.keys (drop l.at-index l.all) ≡ insert_all same_key l.initial.references.keys l.all
