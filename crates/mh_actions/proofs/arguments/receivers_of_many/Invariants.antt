use Rattle.std.proofs.Common.{◌≡◌, ◌++◌, drop}
use Rattle.mh_model.specs.Arguments.{receivers}
use Rattle.mh_actions.proofs.arguments.receivers_of_many.Given as goal

abbrev pub invariant-loop-argument : goal.invariant-loop-argument
invariant-loop-argument l = l.receivers.items ++ receivers (drop l.argument-index l.arguments) ≡ receivers l.arguments
