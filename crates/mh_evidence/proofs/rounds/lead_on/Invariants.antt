use Rattle.std.proofs.Common.{◌≡◌, length}
use Rattle.mh_evidence.specs.Putting.{lead_on}
use Rattle.mh_evidence.proofs.rounds.lead_on.Given as goal

abbrev pub invariant-loop-rest : goal.invariant-loop-rest
invariant-loop-rest l = lead_on l.service l.first l.rest ≡ lead_on l.service l.first l.arrows

abbrev pub decreases-loop-rest : goal.decreases-loop-rest
decreases-loop-rest l = length l.rest
