use Rattle.std.proofs.Common.{◌≡◌, ◌++◌, length}
use Rattle.mh_model.specs.Arguments.{values}
use Rattle.mh_model.specs.Programs.{ins}
use Rattle.mh_model.specs.State.{all}
use Rattle.mh_actions.proofs.calling.call_ins.Given as goal

abbrev pub invariant-loop-param : goal.invariant-loop-param
invariant-loop-param l = l.values.items ++ values (all l.objects) (ins l.params l.passed) ≡ values (all l.objects) (ins l.fn.params l.fn.passed)

abbrev pub decreases-loop-param : goal.decreases-loop-param
decreases-loop-param l = length l.params
