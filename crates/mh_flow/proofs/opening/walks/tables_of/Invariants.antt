use Rattle.std.proofs.Common.{map}
use Rattle.mh_flow.specs.Walks.{AreTablesOf}
use Rattle.mh_flow.proofs.opening.walks.tables_of.Given as goal

abbrev pub invariant-loop-number : goal.invariant-loop-number
invariant-loop-number l = AreTablesOf l.service l.number (map (λ t. t.entries) l.tables.items)
