use Rattle.std.proofs.Common.{◌≡◌, length}
use Rattle.mh_cause.specs.Misfits.{arguments_misfit}
use Rattle.mh_cause.proofs.judging.arguments_misfit.Given as goal

abbrev pub invariant-loop-need : goal.invariant-loop-need
invariant-loop-need l =
    arguments_misfit l.setting l.at (length l.arguments) l.needs l.left
    ≡ arguments_misfit l.fn.setting l.fn.at (length l.fn.arguments) l.fn.needs l.fn.arguments

abbrev pub decreases-loop-need : goal.decreases-loop-need
decreases-loop-need l = length l.left
