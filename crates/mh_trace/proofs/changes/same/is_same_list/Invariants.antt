use Rattle.std.proofs.Common.{◌≡◌, length}
use Rattle.mh_trace.specs.Changes.{same_entries}
use Rattle.mh_trace.proofs.changes.same.is_same_list.Given as goal

abbrev pub invariant-loop-entry : goal.invariant-loop-entry
invariant-loop-entry l = same_entries l.before l.behind ≡ same_entries l.initial.before l.initial.behind

abbrev pub decreases-loop-entry : goal.decreases-loop-entry
decreases-loop-entry l = length l.before
