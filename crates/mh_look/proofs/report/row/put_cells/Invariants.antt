use Rattle.mh_look.proofs.PutLemmas.{ArePut}
use Rattle.mh_look.proofs.report.row.put_cells.Given as goal

abbrev pub invariant-loop-column : goal.invariant-loop-column
invariant-loop-column l = ArePut l.row l.column l.cells l.initial.picture l.picture
