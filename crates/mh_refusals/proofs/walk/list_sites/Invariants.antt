use Rattle.std.proofs.Common.{◌≡◌, drop}
use Rattle.std.specs.List.{flat_map}
use Rattle.mh_flow.specs.Solved.{held_by}
use Rattle.mh_verify.specs.Refusals.{wrong_at}
use Rattle.mh_verify.specs.Samples.{AreSamples}
use Rattle.mh_refusals.specs.Places.{listed}
use Rattle.mh_refusals.proofs.walk.list_sites.Given as goal

abbrev pub invariant-loop-site : goal.invariant-loop-site
invariant-loop-site l =
    (listed l.most l.list.items (flat_map (wrong_at l.scope.service.now l.scope.present (held_by l.scope.present l.scope.held) l.scope.config.now) (drop l.site-index l.sites))
    ≡ listed l.most l.initial.list.items (flat_map (wrong_at l.scope.service.now l.scope.present (held_by l.scope.present l.scope.held) l.scope.config.now) l.sites))
    × AreSamples l.scope.present (held_by l.scope.present l.scope.held) l.samples.entries
