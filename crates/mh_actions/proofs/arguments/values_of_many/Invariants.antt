use Rattle.std.proofs.Common.{◌≡◌, ◌++◌, drop}
use Rattle.mh_model.specs.State.{all}
use Rattle.mh_model.specs.Arguments.{values}
use Rattle.mh_actions.proofs.arguments.values_of_many.Given as goal

abbrev pub invariant-loop-argument : goal.invariant-loop-argument
invariant-loop-argument l = l.values.items ++ values (all l.objects) (drop l.argument-index l.arguments) ≡ values (all l.objects) l.arguments
