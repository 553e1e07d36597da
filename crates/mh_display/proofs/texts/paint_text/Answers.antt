use Rattle.mh_display.proofs.PaintLemmas.{clear_painted, text_in_box}
use Rattle.mh_display.proofs.texts.paint_text.Goals as goal

pub returns-then-is_clear : goal.returns-then-is_clear
returns-then-is_clear c = clear_painted c.args.area.now c.args.ink c.args.lines.now c.args.screen.now (c.is_clear.ensures c.if-is_clear.true)

pub returns : goal.returns
returns c = text_in_box c.args.area.now _ c.args.ink c.args.lines.now c.of-own.result _ _ c.of.ensures.same c.of-own.ensures c.paint_rows.ensures
