use Rattle.std.proofs.Common.{◌≡◌, ◌++◌, drop}
use Rattle.std.specs.List.{flat_map}
use Rattle.mh_trace.specs.Json.{escaped}
use Rattle.mh_trace.proofs.json.put_escaped.Given as goal

abbrev pub invariant-loop-octet : goal.invariant-loop-octet
invariant-loop-octet l =
    l.text ++ flat_map escaped (drop l.octet-index l.octets) ≡ l.initial.text ++ flat_map escaped l.octets
