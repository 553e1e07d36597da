use Rattle.std.proofs.Common.{◌≡◌, ◌++◌, drop}
use Rattle.std.specs.List.{flat_map}
use Rattle.mh_trace.specs.Why.{operand_json}
use Rattle.mh_trace.proofs.why.json.put_each.Given as goal

abbrev pub invariant-loop-value : goal.invariant-loop-value
invariant-loop-value l =
    l.list ++ flat_map operand_json (drop l.value-index l.values) ≡ l.initial.list ++ flat_map operand_json l.values
