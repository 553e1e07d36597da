use Rattle.std.proofs.Common.{◌≡◌, ◌++◌, drop}
use Rattle.std.specs.List.{flat_map}
use Rattle.mh_lint.specs.Uses.{read_argument}
use Rattle.mh_lint.proofs.uses.reading.push_arguments.Given as goal

abbrev pub invariant-loop-argument : goal.invariant-loop-argument
invariant-loop-argument l =
    l.targets.items ++ flat_map (read_argument l.calls) (drop l.argument-index l.arguments) ≡ l.initial.targets.items ++ flat_map (read_argument l.calls) l.arguments
