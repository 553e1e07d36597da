use Rattle.std.proofs.Common.{◌≡◌, ◌++◌, drop}
use Rattle.std.specs.Prelude.{slice_get}
use Rattle.std.specs.List.{flat_map}
use Rattle.mh_store.specs.Bringing.{found_ready, ready_from}
use Rattle.mh_store.specs.Places.{is_among}
use Rattle.mh_store.proofs.group.Group.ready.Given as goal

abbrev pub invariant-loop-place : goal.invariant-loop-place
invariant-loop-place l =
    l.ready.items ++ flat_map (λ k. found_ready k l.text (slice_get l.self k)) (drop l.place-index l.place-items)
    ≡ ready_from 0 (is_among l.waiting) l.text l.self
