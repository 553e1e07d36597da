use Rattle.std.proofs.Common.{◌≡◌, ◌++◌, drop}
use Rattle.std.specs.List.{flat_map}
use Rattle.mh_model.specs.State.{all}
use Rattle.mh_trace.specs.Listening.{at_place}
use Rattle.mh_trace.specs.Sites.{heard_at}
use Rattle.mh_trace.proofs.sites.heard_sites_at.Given as goal

abbrev pub invariant-loop-place : goal.invariant-loop-place
invariant-loop-place l =
    l.sites.items ++ flat_map (at_place (heard_at l.event) (all l.objects)) (drop l.place-index l.places)
    ≡ flat_map (at_place (heard_at l.event) (all l.objects)) l.places
