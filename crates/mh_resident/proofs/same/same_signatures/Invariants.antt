use Rattle.std.proofs.Common.{length}
use Rattle.mh_resident.proofs.SameLemmas.{Left}
use Rattle.mh_resident.proofs.same.same_signatures.Given as goal

abbrev pub invariant-loop-x : goal.invariant-loop-x
invariant-loop-x l = Left l.first l.second l.a l.b

abbrev pub decreases-loop-x : goal.decreases-loop-x
decreases-loop-x l = length l.first
