use Rattle.std.proofs.Common.{rules, arith}
use Rattle.mh_display.proofs.BitLemmas.{all_left, next_left, none_left, fewer, lowest_inside}
use Rattle.mh_display.specs.Painting.{settled}
use Rattle.mh_display.proofs.PaintLemmas.{settled_already}
use Rattle.mh_display.proofs.painting.settle_row.Goals as goal

pub loop-left-init : goal.loop-left-init
loop-left-init c = (c.stale_in-left.type_inv, all_left (λ c. settled) c.args.screen.now c.args.row _ _ _ (λ c k e. settled_already k e) c.stale_in-left.ensures)

pub settle_cell-requires-clause-wide : goal.settle_cell-requires-clause-wide
settle_cell-requires-clause-wide c = omega (arith, lowest_inside _ _ _ _ _ _ c.loop-left.left (search rules) c.loop-left.invariant.0 c.loop-left.invariant.1, c.lowest-column.ensures)

pub without-left-requires : goal.without-left-requires
without-left-requires c = omega (arith, lowest_inside _ _ _ _ _ _ c.loop-left.left (search rules) c.loop-left.invariant.0 c.loop-left.invariant.1, c.lowest-column.ensures)

pub loop-left-smaller : goal.loop-left-smaller
loop-left-smaller c = fewer c.loop-left.left c.lowest-column.result c.without-left.result (search rules) c.loop-left.invariant.0 c.lowest-column.ensures c.without-left.ensures

pub loop-left-preserved : goal.loop-left-preserved
loop-left-preserved c = (
  c.without-left.type_inv,
  next_left (λ c. settled) _ _ _ c.args.row _ _ c.loop-left.left c.lowest-column.result c.without-left.result (search rules) c.loop-left.invariant.0 c.lowest-column.ensures c.without-left.ensures c.loop-left.invariant.1 c.settle_cell.ensures,
)

pub returns : goal.returns
returns c = none_left (λ c. settled) _ _ c.args.row _ _ c.loop-left.left (search rules) c.loop-left.invariant.1
