use Rattle.std.proofs.Common.{◌≡◌, ◌-◌, length}
use Rattle.mh_why.specs.Values.{value, value_by}
use Rattle.mh_why.proofs.explanation.place.values.value.Given as goal

abbrev pub invariant-loop : goal.invariant-loop
invariant-loop l = value_by (length l.bytes - l.counter) l.walk l.left ≡ value l.fn.number l.fn.bytes
