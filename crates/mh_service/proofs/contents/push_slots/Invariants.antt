use Rattle.std.proofs.Common.{◌≡◌, ◌++◌, drop}
use Rattle.std.specs.List.{flat_map}
use Rattle.mh_service.specs.Contents.{acts_files}
use Rattle.mh_service.proofs.contents.push_slots.Given as goal

abbrev pub invariant-loop-slot : goal.invariant-loop-slot
invariant-loop-slot l = l.named.items ++ flat_map acts_files (drop l.slot-index l.slots) ≡ l.initial.named.items ++ flat_map acts_files l.slots
