use Rattle.std.proofs.Common.{◌≡◌, replicate, []}
use Rattle.mh_flow.specs.Rows.{number_rows}
use Rattle.mh_flow.proofs.fixpoint.rows.empty_rows.Given as goal

abbrev pub invariant-loop : goal.invariant-loop
invariant-loop l = number_rows l.rows.items ≡ replicate l.counter []
