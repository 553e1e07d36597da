use Rattle.std.proofs.Common.{arith}
use Rattle.mh_look.proofs.PutLemmas.{all_put, others_kept}
use Rattle.mh_look.proofs.report.row.put_cells.Goals as goal

pub returns-clause-put : goal.returns-clause-put
returns-clause-put c = all_put c.args.row c.loop-column.column c.args.cells.now c.args.picture.now c.loop-column.picture c.requires.whole (omega arith) c.loop-column.invariant

pub returns-clause-others : goal.returns-clause-others
returns-clause-others c = others_kept c.args.row c.loop-column.column c.args.cells.now c.args.picture.now c.loop-column.picture c.loop-column.invariant
