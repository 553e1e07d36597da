use Rattle.std.proofs.Common.{◌≡◌, ◌++◌, map, drop}
use Rattle.mh_look.specs.Cells.{coloured}
use Rattle.mh_look.proofs.report.run.put_characters.Given as goal

abbrev pub invariant-loop-scalar : goal.invariant-loop-scalar
invariant-loop-scalar l = l.cells.items ++ map (coloured l.fore l.back) (drop l.scalar-index l.scalars) ≡ l.initial.cells.items ++ map (coloured l.fore l.back) l.scalars
