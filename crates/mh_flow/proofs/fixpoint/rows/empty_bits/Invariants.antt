use Rattle.std.proofs.Common.{◌≡◌, replicate, []}
use Rattle.mh_flow.proofs.fixpoint.rows.empty_bits.Given as goal

abbrev pub invariant-loop : goal.invariant-loop
invariant-loop l = l.rows.items ≡ replicate l.counter []
