use Rattle.std.proofs.Common.{◌≡◌, ◌++◌, [], length}
use Rattle.mh_cause.specs.Calls.{arguments_from}
use Rattle.mh_cause.proofs.programs.put_arguments.Given as goal

abbrev pub invariant-loop-left : goal.invariant-loop-left
invariant-loop-left l = l.text ++ arguments_from l.front l.left ≡ l.fn.text ++ arguments_from [] l.arguments

abbrev pub decreases-loop-left : goal.decreases-loop-left
decreases-loop-left l = length l.left
