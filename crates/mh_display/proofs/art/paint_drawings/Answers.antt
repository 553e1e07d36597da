use Rattle.std.specs.Prelude.{◌-◌}
use Rattle.std.proofs.Common.{arith}
use Rattle.mh_display.proofs.ArtLemmas.{not_drawn, next_drawing, all_drawn}
use Rattle.mh_display.proofs.art.paint_drawings.Goals as goal

pub loop-left-init : goal.loop-left-init
loop-left-init c = (omega arith, not_drawn c.args.area.now c.args.drawings.now _ c.args.window.now c.args.screen.now (omega arith))

pub loop-left-preserved : goal.loop-left-preserved
loop-left-preserved c = (
  omega (arith, c.loop-left.invariant.0),
  next_drawing c.args.area.now c.args.drawings.now c.loop-left.left (c.loop-left.left - 1) _ c.args.window.now _ _ _ c.loop-left.invariant.0 (omega (arith, c.loop-left-test.true)) c.loop-left.invariant.1 c.paint_drawing.ensures,
)

pub returns : goal.returns
returns c = all_drawn c.args.area.now c.args.drawings.now c.loop-left.left c.args.window.now _ _ c.loop-left-test.false c.loop-left.invariant.1
