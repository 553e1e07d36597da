use Rattle.std.proofs.Common.{◌≡◌, ◌++◌, drop}
use Rattle.std.specs.List.{flat_map}
use Rattle.mh_told.specs.Printing.{quoted}
use Rattle.mh_told.proofs.text.Text.put_all_quoted.Given as goal

abbrev pub invariant-loop-scalar : goal.invariant-loop-scalar
invariant-loop-scalar l = l.self ++ flat_map quoted (drop l.scalar-index l.scalars) ≡ l.initial.self ++ flat_map quoted l.scalars
