use Rattle.std.proofs.Common.{◌≡◌, ◌++◌, drop, false}
use Rattle.std.specs.List.{flat_map}
use Rattle.mh_lint.specs.Notes.{seen_from}
use Rattle.mh_lint.proofs.seen.push_slots.Given as goal

abbrev pub invariant-loop-slot : goal.invariant-loop-slot
invariant-loop-slot l =
    l.seen.items ++ flat_map (seen_from l.late false) (drop l.slot-index l.slots) ≡ l.initial.seen.items ++ flat_map (seen_from l.late false) l.slots
