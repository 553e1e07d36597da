use Rattle.std.proofs.Common.{◌≡◌, ◌++◌, drop, map}
use Rattle.serde_json.specs.View.{view}
use Rattle.mh_served.specs.Diagnostics.{diagnostics_at}
use Rattle.mh_served.proofs.diagnostics.diagnostics_at.Given as goal

abbrev pub invariant-loop-finding : goal.invariant-loop-finding
invariant-loop-finding l =
    map view l.found.items ++ diagnostics_at l.unit l.folder l.files l.path (drop l.finding-index l.findings)
    ≡ diagnostics_at l.unit l.folder l.files l.path l.findings
