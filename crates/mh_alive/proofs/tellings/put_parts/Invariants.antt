use Rattle.std.proofs.Common.{◌≡◌, drop}
use Rattle.std.specs.List.{flat_map}
use Rattle.indexmap.specs.IndexSet.{insert_all}
use Rattle.mh_alive.specs.Tellings.{same_telling, told_itself}
use Rattle.mh_alive.proofs.tellings.put_parts.Given as goal

abbrev pub invariant-loop-part : goal.invariant-loop-part
invariant-loop-part l =
    insert_all same_telling l.told.keys (flat_map told_itself (drop l.part-index l.parts)) ≡ insert_all same_telling l.initial.told.keys (flat_map told_itself l.parts)
