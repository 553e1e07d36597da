use Rattle.std.proofs.Common.{◌≡◌, ◌++◌, drop, map}
use Rattle.serde_json.specs.View.{view}
use Rattle.mh_served.specs.Diagnostics.{related_data}
use Rattle.mh_served.proofs.diagnostics.related_value.Given as goal

abbrev pub invariant-loop-other : goal.invariant-loop-other
invariant-loop-other l =
    map view l.found.items ++ map (related_data l.unit l.folder l.files) (drop l.other-index l.related)
    ≡ map (related_data l.unit l.folder l.files) l.related
