use Rattle.std.proofs.Common.{◌≡◌, ◌++◌}
use Rattle.mh_told.proofs.late.listed.Given as goal

abbrev pub invariant-loop-name : goal.invariant-loop-name
invariant-loop-name l = l.listed.items ++ l.name-iterator ≡ l.names.keys
