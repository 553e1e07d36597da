use Rattle.std.proofs.Common.{◌≡◌, ◌++◌, drop}
use Rattle.std.specs.List.{flat_map}
use Rattle.mh_trace.specs.Why.{operand_text}
use Rattle.mh_trace.proofs.why.put_each_value.Given as goal

abbrev pub invariant-loop-value : goal.invariant-loop-value
invariant-loop-value l =
    l.text ++ flat_map operand_text (drop l.value-index l.values) ≡ l.initial.text ++ flat_map operand_text l.values
