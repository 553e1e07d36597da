use Rattle.std.proofs.Common.{◌≡◌, ◌++◌, drop}
use Rattle.std.specs.List.{flat_map}
use Rattle.mh_store.specs.Places.{places_at}
use Rattle.mh_store.proofs.group.Group.places.Given as goal

abbrev pub invariant-loop-at : goal.invariant-loop-at
invariant-loop-at l =
    l.places.items ++ flat_map (places_at l.first l.self) (drop l.at-index l.named) ≡ flat_map (places_at l.first l.self) l.named
