use Rattle.std.proofs.Common.{◌≡◌, drop}
use Rattle.std.specs.List.{flat_map}
use Rattle.mh_flow.specs.Chart.{held_of, targeted_of, with_references}
use Rattle.mh_flow.proofs.references.put_parts.Given as goal

abbrev pub invariant-loop-part : goal.invariant-loop-part
invariant-loop-part l =
    (with_references l.held.keys (flat_map held_of (drop l.part-index l.parts)) ≡ with_references l.initial.held.keys (flat_map held_of l.parts))
    × (with_references l.targeted.keys (flat_map targeted_of (drop l.part-index l.parts)) ≡ with_references l.initial.targeted.keys (flat_map targeted_of l.parts))
