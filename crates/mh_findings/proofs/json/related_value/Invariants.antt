use Rattle.std.proofs.Common.{◌≡◌, ◌++◌, drop, map}
use Rattle.serde_json.specs.View.{view}
use Rattle.mh_findings.specs.Json.{related_data}
use Rattle.mh_findings.proofs.json.related_value.Given as goal

abbrev pub invariant-loop-other : goal.invariant-loop-other
invariant-loop-other l = map view l.items.items ++ map related_data (drop l.other-index l.related) ≡ map related_data l.related
