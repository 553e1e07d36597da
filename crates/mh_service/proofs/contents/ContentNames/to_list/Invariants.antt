use Rattle.std.proofs.Common.{◌≡◌, ◌++◌}
use Rattle.mh_service.proofs.contents.ContentNames.to_list.Given as goal

abbrev pub invariant-loop-name : goal.invariant-loop-name
invariant-loop-name l = l.names ++ l.name-iterator ≡ l.initial.name-iterator
