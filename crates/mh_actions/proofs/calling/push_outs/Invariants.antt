use Rattle.std.proofs.Common.{◌≡◌, ◌++◌, length}
use Rattle.mh_model.specs.Programs.{outs}
use Rattle.mh_actions.proofs.calling.push_outs.Given as goal

abbrev pub invariant-loop-param : goal.invariant-loop-param
invariant-loop-param l = l.receivers.items ++ outs l.params l.passed ≡ l.initial.receivers.items ++ outs l.fn.params l.fn.passed

abbrev pub decreases-loop-param : goal.decreases-loop-param
decreases-loop-param l = length l.params
