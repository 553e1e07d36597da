use Rattle.std.proofs.Common.{◌≡◌, ◌++◌, drop}
use Rattle.mh_service.specs.Sealed.{missing}
use Rattle.mh_service.proofs.sealed.names_of_missing.Given as goal

abbrev pub invariant-loop-entry : goal.invariant-loop-entry
invariant-loop-entry l = l.names.items ++ missing (drop l.entry-index l.groups) ≡ missing l.groups
