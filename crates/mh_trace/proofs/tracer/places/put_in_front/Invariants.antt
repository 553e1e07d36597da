use Rattle.std.proofs.Common.{◌≡◌, ◌++◌, length}
use Rattle.mh_trace.proofs.tracer.places.put_in_front.Given as goal

abbrev pub invariant-loop-site : goal.invariant-loop-site
invariant-loop-site l = l.put.items ++ l.places.items ≡ l.initial.put.items ++ l.initial.places.items

abbrev pub decreases-loop-site : goal.decreases-loop-site
decreases-loop-site l = length l.put.items
