use Rattle.std.proofs.Common.{◌≡◌, ◌++◌}
use Rattle.mh_service.proofs.service.shared.Given as goal

abbrev pub invariant-loop-file : goal.invariant-loop-file
invariant-loop-file l = l.shared.items ++ l.file-iterator.rest.items ≡ l.initial.file-iterator.rest.items
