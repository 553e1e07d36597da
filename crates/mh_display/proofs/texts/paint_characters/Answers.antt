use Rattle.std.proofs.Common.{rules, arith}
use Rattle.mh_display.proofs.BitLemmas.{all_left, next_left, none_left, fewer, lowest_inside}
use Rattle.mh_display.specs.Painting.{put}
use Rattle.mh_display.specs.Texts.{shown_paint}
use Rattle.mh_display.proofs.LetterLemmas.{shown_set}
use Rattle.mh_display.proofs.PaintLemmas.{settled_stays}
use Rattle.mh_display.proofs.texts.paint_characters.Goals as goal

pub loop-left-init : goal.loop-left-init
loop-left-init c = (c.stale_in-left.type_inv, all_left (λ k. put (shown_paint c.args.ink c.args.shown.now k)) c.args.screen.now c.args.row _ _ _ (λ m k e. settled_stays (shown_paint c.args.ink c.args.shown.now m) k e) c.stale_in-left.ensures)

pub paint_cell-requires-clause-wide : goal.paint_cell-requires-clause-wide
paint_cell-requires-clause-wide c = omega (arith, lowest_inside _ _ _ _ _ _ c.loop-left.left (search rules) c.loop-left.invariant.0 c.loop-left.invariant.1, c.lowest-column.ensures, c.requires.wide)

pub bounds-shown-column : goal.bounds-shown-column
bounds-shown-column c = omega (arith, lowest_inside _ _ _ _ _ _ c.loop-left.left (search rules) c.loop-left.invariant.0 c.loop-left.invariant.1, c.lowest-column.ensures, c.requires.wide)

pub without-left-requires : goal.without-left-requires
without-left-requires c = omega (arith, lowest_inside _ _ _ _ _ _ c.loop-left.left (search rules) c.loop-left.invariant.0 c.loop-left.invariant.1, c.lowest-column.ensures, c.requires.wide)

pub loop-left-smaller : goal.loop-left-smaller
loop-left-smaller c = fewer c.loop-left.left c.lowest-column.result c.without-left.result (search rules) c.loop-left.invariant.0 c.lowest-column.ensures c.without-left.ensures

pub loop-left-preserved : goal.loop-left-preserved
loop-left-preserved c = (
  c.without-left.type_inv,
  next_left (λ k. put (shown_paint c.args.ink c.args.shown.now k)) _ _ _ c.args.row _ _ c.loop-left.left c.lowest-column.result c.without-left.result (search rules) c.loop-left.invariant.0 c.lowest-column.ensures c.without-left.ensures c.loop-left.invariant.1 (shown_set c.args.ink c.args.shown.now c.args.row c.lowest-column.result _ _ (omega (arith, lowest_inside _ _ _ _ _ _ c.loop-left.left (search rules) c.loop-left.invariant.0 c.loop-left.invariant.1, c.lowest-column.ensures, c.requires.wide)) c.paint_cell.ensures),
)

pub returns : goal.returns
returns c = none_left (λ k. put (shown_paint c.args.ink c.args.shown.now k)) _ _ c.args.row _ _ c.loop-left.left (search rules) c.loop-left.invariant.1
