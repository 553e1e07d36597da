use Rattle.mh_look.proofs.ChangeLemmas.{RowsSoFar}
use Rattle.mh_look.proofs.report.frame.read_rows.Given as goal

abbrev pub invariant-loop-row : goal.invariant-loop-row
invariant-loop-row l = RowsSoFar l.row l.before l.bytes l.after l.length
