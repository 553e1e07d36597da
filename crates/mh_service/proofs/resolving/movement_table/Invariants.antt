use Rattle.std.proofs.Common.{◌≡◌, ◌++◌, drop}
use Rattle.mh_service.proofs.resolving.movement_table.Given as goal

abbrev pub invariant-loop-row : goal.invariant-loop-row
invariant-loop-row l = l.rows ++ drop l.row-index l.written ≡ l.written
