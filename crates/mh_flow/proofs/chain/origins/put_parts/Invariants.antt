use Rattle.std.proofs.Common.{◌≡◌, drop}
use Rattle.std.specs.List.{flat_map}
use Rattle.mh_flow.specs.Chart.{with_references}
use Rattle.mh_flow.specs.Origins.{begun_by}
use Rattle.mh_flow.proofs.chain.origins.put_parts.Given as goal

abbrev pub invariant-loop-part : goal.invariant-loop-part
invariant-loop-part l = with_references l.begun.keys (flat_map (begun_by l.link) (drop l.part-index l.parts)) ≡ with_references l.initial.begun.keys (flat_map (begun_by l.link) l.parts)
