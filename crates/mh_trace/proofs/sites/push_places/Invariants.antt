use Rattle.std.proofs.Common.{◌≡◌, ◌++◌, ◌+◌, drop}
use Rattle.mh_trace.specs.Sites.{places_from}
use Rattle.mh_trace.proofs.sites.push_places.Given as goal

abbrev pub invariant-loop-index : goal.invariant-loop-index
invariant-loop-index l =
    l.sites.items ++ places_from l.object l.kind (l.index + 1) (drop l.index l.acts)
    ≡ l.initial.sites.items ++ places_from l.object l.kind 1 l.acts
