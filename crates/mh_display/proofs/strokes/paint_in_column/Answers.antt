use Rattle.std.proofs.Common.{rules}
use Rattle.mh_display.proofs.StrokeLemmas.{missed_in_column, painted_in_column}
use Rattle.mh_display.proofs.strokes.paint_in_column.Goals as goal

pub returns-in-Some : goal.returns-in-Some
returns-in-Some c = painted_in_column c.args.stroke.now c.args.colour c.args.column c.in-Some.row c.args.window.now _ _ c.requires.narrow c.requires.beside c.requires.wide (search rules) c.paint_cell.ensures

pub returns-in_default : goal.returns-in_default
returns-in_default c = missed_in_column c.args.stroke.now c.args.colour c.args.column c.args.window.now _ (search rules) (search rules)
