use Rattle.std.proofs.Common.{◌≡◌, ◌++◌, map}
use Rattle.mh_service.specs.Sealed.{as_file}
use Rattle.mh_service.proofs.sealed.as_files.Given as goal

abbrev pub invariant-loop-entry : goal.invariant-loop-entry
invariant-loop-entry l = l.files.items ++ map as_file l.entry-iterator.rest.items ≡ map as_file l.initial.entry-iterator.rest.items
