use Rattle.std.proofs.Common.{rules}
use Rattle.std.proofs.Math.Facts.{to_z-of_z}
use Rattle.mh_state.proofs.cell.frame.covers_beside.Goals as goal

pub returns-then-covers_column : goal.returns-then-covers_column
returns-then-covers_column c = search (rules, to_z-of_z)

pub returns-else-covers_column : goal.returns-else-covers_column
returns-else-covers_column c = search (rules, to_z-of_z)
