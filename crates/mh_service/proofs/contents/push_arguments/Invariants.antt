use Rattle.std.proofs.Common.{◌≡◌, ◌++◌, drop}
use Rattle.std.specs.List.{flat_map}
use Rattle.mh_service.specs.Contents.{argument_files}
use Rattle.mh_service.proofs.contents.push_arguments.Given as goal

abbrev pub invariant-loop-argument : goal.invariant-loop-argument
invariant-loop-argument l = l.named.items ++ flat_map argument_files (drop l.argument-index l.arguments) ≡ l.initial.named.items ++ flat_map argument_files l.arguments
