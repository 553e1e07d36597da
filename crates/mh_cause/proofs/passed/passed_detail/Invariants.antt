use Rattle.std.proofs.Common.{◌≡◌, length}
use Rattle.mh_cause.specs.Details.{passed_detail}
use Rattle.mh_cause.proofs.passed.passed_detail.Given as goal

abbrev pub invariant-loop-argument : goal.invariant-loop-argument
invariant-loop-argument l =
    passed_detail (length l.arguments) l.params l.left ≡ passed_detail (length l.fn.arguments) l.fn.params l.fn.arguments

abbrev pub decreases-loop-argument : goal.decreases-loop-argument
decreases-loop-argument l = length l.left
