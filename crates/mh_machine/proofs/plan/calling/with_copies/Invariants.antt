use Rattle.std.proofs.Common.{◌≡◌, ◌++◌, drop}
use Rattle.mh_machine.proofs.plan.calling.with_copies.Given as goal

abbrev pub invariant-loop-value : goal.invariant-loop-value
invariant-loop-value l = l.said.items ++ drop l.value-index l.values ≡ l.fn.said.items ++ l.values
