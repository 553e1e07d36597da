use Rattle.std.proofs.Common.{◌≡◌, ◌++◌, length}
use Rattle.mh_machine.specs.Plans.{gifts}
use Rattle.mh_machine.proofs.plan.answering.gifts_of.Given as goal

abbrev pub invariant-loop-at : goal.invariant-loop-at
invariant-loop-at l = l.given.items ++ gifts l.receivers l.answers ≡ gifts l.fn.receivers l.fn.answers

abbrev pub decreases-loop-at : goal.decreases-loop-at
decreases-loop-at l = length l.receivers
