use Rattle.std.proofs.Common.{sym, ◌∙◌}
use Rattle.mh_display.proofs.PaintLemmas.{clear_in, shared}
use Rattle.mh_display.proofs.panels.paint_panel.Goals as goal

pub returns-then-is_clear : goal.returns-then-is_clear
returns-then-is_clear c = clear_in c.args.panel.now c.args.window.now c.args.screen.now (sym c.is_clear.ensures ∙ c.if-is_clear.true)

pub returns : goal.returns
returns c = shared c.args.panel.now c.of-own.result c.args.window.now c.meet.result _ _ c.of-own.ensures c.meet.ensures c.paint_rows.ensures
