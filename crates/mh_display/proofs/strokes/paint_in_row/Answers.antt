use Rattle.std.specs.Prelude.{Some}
use Rattle.mh_display.specs.Painting.{put}
use Rattle.mh_display.specs.Strokes.{stroke_paint}
use Rattle.mh_display.proofs.BitLemmas.{all_left, none_left}
use Rattle.mh_display.proofs.PaintLemmas.{settled_stays}
use Rattle.std.proofs.Common.{rules}
use Rattle.mh_display.proofs.StrokeLemmas.{missed_in_row, painted_in_row}
use Rattle.mh_display.proofs.strokes.paint_in_row.Goals as goal

pub returns-in-Some : goal.returns-in-Some
returns-in-Some c = painted_in_row c.args.stroke.now c.args.colour c.args.row c.args.window.now.left c.args.window.now.right c.in-Some.column _ _ c.requires.wide (search rules) c.paint_cell.ensures

pub returns-in_default : goal.returns-in_default
returns-in_default c = missed_in_row c.args.stroke.now c.args.colour c.args.row c.args.window.now.left c.args.window.now.right _ c.requires.wide (search rules)

pub returns-then-stale_in-eq0 : goal.returns-then-stale_in-eq0
returns-then-stale_in-eq0 c =
    none_left (λ k. put (stroke_paint c.args.stroke.now (Some c.args.colour) k)) _ _ c.args.row _ _ c.stale_in.result (search rules)
    (all_left (λ k. put (stroke_paint c.args.stroke.now (Some c.args.colour) k)) c.args.screen.now c.args.row _ _ _ (λ m k e. settled_stays (stroke_paint c.args.stroke.now (Some c.args.colour) m) k e) c.stale_in.ensures)
