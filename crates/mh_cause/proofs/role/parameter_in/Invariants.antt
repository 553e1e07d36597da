use Rattle.std.proofs.Common.{◌≡◌, length}
use Rattle.mh_cause.specs.Roles.{parameter_in}
use Rattle.mh_cause.proofs.role.parameter_in.Given as goal

abbrev pub invariant-loop-left : goal.invariant-loop-left
invariant-loop-left l = parameter_in (length l.arguments) l.at l.left ≡ parameter_in (length l.fn.arguments) l.fn.at l.fn.arguments

abbrev pub decreases-loop-left : goal.decreases-loop-left
decreases-loop-left l = length l.left
