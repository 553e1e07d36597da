use Rattle.std.proofs.Common.{◌≡◌}
use Rattle.std.specs.List.{flat_map}
use Rattle.mh_flow.specs.Chart.{all_held, all_targeted, held_of, targeted_of, with_references}
use Rattle.mh_flow.proofs.references.put_service.Given as goal

abbrev pub invariant-loop-parts : goal.invariant-loop-parts
invariant-loop-parts l =
    (with_references l.held.keys (flat_map held_of (flat_map (λ ps. ps) l.parts-iterator)) ≡ with_references l.initial.held.keys (all_held l.service))
    × (with_references l.targeted.keys (flat_map targeted_of (flat_map (λ ps. ps) l.parts-iterator)) ≡ with_references l.initial.targeted.keys (all_targeted l.service))
