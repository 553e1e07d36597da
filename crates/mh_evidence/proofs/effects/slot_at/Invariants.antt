use Rattle.std.proofs.Common.{◌≡◌, drop}
use Rattle.std.specs.Prelude.{slice_get}
use Rattle.std.specs.List.{flat_map}
use Rattle.mh_evidence.proofs.effects.slot_at.Given as goal

abbrev pub invariant-loop-member : goal.invariant-loop-member
invariant-loop-member l =
    slice_get (flat_map (λ m. m.slots) (drop l.member-index l.members)) l.left ≡ slice_get (flat_map (λ m. m.slots) l.members) l.number
