use Rattle.std.proofs.Common.{◌≡◌, ℕ, ◌++◌, drop}
use Rattle.std.specs.List.{flat_map}
use Rattle.mh_places.specs.Directory.{listed, marked_at}
use Rattle.mh_places.specs.Places.{place_at}
use Rattle.mh_places.proofs.directory.put_marks.Given as goal

abbrev pub invariant-loop-mark : goal.invariant-loop-mark
invariant-loop-mark l =
    (l.known.place ≡ place_at l.bytes l.known.offset)
    × ((n : ℕ) → listed n l.table.entries ++ flat_map (marked_at l.bytes n l.turn) (drop l.mark-index l.marks) ≡ listed n l.initial.table.entries ++ flat_map (marked_at l.bytes n l.turn) l.marks)
