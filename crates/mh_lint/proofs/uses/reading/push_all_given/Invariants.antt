use Rattle.std.proofs.Common.{◌≡◌, ◌++◌, drop}
use Rattle.std.specs.List.{flat_map}
use Rattle.mh_lint.specs.Uses.{given}
use Rattle.mh_lint.proofs.uses.reading.push_all_given.Given as goal

abbrev pub invariant-loop-argument : goal.invariant-loop-argument
invariant-loop-argument l =
    l.targets.items ++ flat_map given (drop l.argument-index l.arguments) ≡ l.initial.targets.items ++ flat_map given l.arguments
