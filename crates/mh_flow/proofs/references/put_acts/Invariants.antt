use Rattle.std.proofs.Common.{◌≡◌, drop}
use Rattle.std.specs.List.{flat_map}
use Rattle.mh_flow.specs.Chart.{handed, targeted_by, with_references}
use Rattle.mh_flow.proofs.references.put_acts.Given as goal

abbrev pub invariant-loop-site : goal.invariant-loop-site
invariant-loop-site l =
    (with_references l.held.keys (flat_map (λ x. handed x.act) (drop l.site-index l.sites)) ≡ with_references l.initial.held.keys (flat_map (λ x. handed x.act) l.sites))
    × (with_references l.targeted.keys (flat_map (λ x. targeted_by x.act) (drop l.site-index l.sites)) ≡ with_references l.initial.targeted.keys (flat_map (λ x. targeted_by x.act) l.sites))
