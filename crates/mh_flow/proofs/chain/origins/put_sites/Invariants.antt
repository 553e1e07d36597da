use Rattle.std.proofs.Common.{◌≡◌, drop}
use Rattle.std.specs.List.{flat_map}
use Rattle.mh_flow.specs.Chart.{with_references}
use Rattle.mh_flow.specs.Origins.{begun_at}
use Rattle.mh_flow.proofs.chain.origins.put_sites.Given as goal

abbrev pub invariant-loop-site : goal.invariant-loop-site
invariant-loop-site l = with_references l.begun.keys (flat_map (begun_at l.link) (drop l.site-index l.sites)) ≡ with_references l.initial.begun.keys (flat_map (begun_at l.link) l.sites)
