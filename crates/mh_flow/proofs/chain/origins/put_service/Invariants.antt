use Rattle.std.proofs.Common.{◌≡◌}
use Rattle.std.specs.List.{flat_map}
use Rattle.mh_flow.specs.Chart.{with_references}
use Rattle.mh_flow.specs.Origins.{begun, begun_by}
use Rattle.mh_flow.proofs.chain.origins.put_service.Given as goal

abbrev pub invariant-loop-parts : goal.invariant-loop-parts
invariant-loop-parts l = with_references l.begun.keys (flat_map (begun_by l.link) (flat_map (λ ps. ps) l.parts-iterator)) ≡ with_references l.initial.begun.keys (begun l.service l.link)
