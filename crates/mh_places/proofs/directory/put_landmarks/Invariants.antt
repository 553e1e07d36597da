use Rattle.std.proofs.Common.{◌≡◌, ℕ, ◌++◌, drop}
use Rattle.std.specs.List.{flat_map}
use Rattle.mh_places.specs.Directory.{listed, seen_at}
use Rattle.mh_places.specs.Places.{place_at}
use Rattle.mh_places.proofs.directory.put_landmarks.Given as goal

abbrev pub invariant-loop-landmark : goal.invariant-loop-landmark
invariant-loop-landmark l =
    (l.known.place ≡ place_at l.bytes l.known.offset)
    × ((n : ℕ) → listed n l.table.entries ++ flat_map (seen_at l.bytes n) (drop l.landmark-index l.landmarks) ≡ listed n l.initial.table.entries ++ flat_map (seen_at l.bytes n) l.landmarks)
