use Rattle.std.proofs.Common.{length}
use Rattle.mh_paths.specs.Trails.{IsTaken, waiting}
use Rattle.mh_paths.proofs.search.first_of.Given as goal

abbrev pub invariant-loop-other : goal.invariant-loop-other
invariant-loop-other l = IsTaken (waiting l.initial.queue) l.fn.due l.first (waiting l.queue)

abbrev pub decreases-loop-other : goal.decreases-loop-other
decreases-loop-other l = length (waiting l.queue)
