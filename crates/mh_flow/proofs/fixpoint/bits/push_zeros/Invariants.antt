use Rattle.std.proofs.Common.{◌≡◌, ◌≤◌, ◌+◌, ◌++◌, length, replicate}
use Rattle.mh_flow.proofs.fixpoint.bits.push_zeros.Given as goal

abbrev pub invariant-loop : goal.invariant-loop
invariant-loop l = (l.words.items ≡ l.initial.words.items ++ replicate l.counter 0) × (length l.words.items ≤ length l.initial.words.items + l.counter)
