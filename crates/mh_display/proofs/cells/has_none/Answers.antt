use Rattle.std.proofs.Common.{arith}
use Rattle.mh_display.proofs.BitLemmas.{none_in}
use Rattle.mh_display.proofs.cells.has_none.Goals as goal

pub returns : goal.returns
returns c = λ e. none_in c.args.rows.now (λ r low. c.loop-row.invariant r (omega (arith, low, c.loop-row-test.false, c.told-rows)))
