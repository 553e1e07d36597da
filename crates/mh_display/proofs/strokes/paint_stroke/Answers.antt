use Rattle.std.proofs.Common.{rules}
use Rattle.mh_display.proofs.StrokeLemmas.{no_colour}
use Rattle.mh_display.proofs.strokes.paint_stroke.Goals as goal

pub returns-in_default : goal.returns-in_default
returns-in_default c = no_colour c.args.stroke.now c.args.line c.args.window.now _ (search rules)
