use Rattle.std.specs.Prelude.{Some, None}
use Rattle.std.proofs.Common.{rules}
use Rattle.mh_display.proofs.StrokeLemmas.{left_alone}
use Rattle.mh_display.proofs.strokes.paint_cell.Goals as goal

pub returns-else-is_stale : goal.returns-else-is_stale
returns-else-is_stale c = left_alone (record { back = Some c.args.colour; mark = None }) _ _ (search rules)
