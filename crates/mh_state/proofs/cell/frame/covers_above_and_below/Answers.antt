use Rattle.std.proofs.Common.{rules}
use Rattle.std.proofs.Math.Facts.{to_z-of_z}
use Rattle.mh_state.proofs.cell.frame.covers_above_and_below.Goals as goal

pub returns-then-covers_row : goal.returns-then-covers_row
returns-then-covers_row c = search (rules, to_z-of_z)

pub returns-else-covers_row : goal.returns-else-covers_row
returns-else-covers_row c = search (rules, to_z-of_z)
