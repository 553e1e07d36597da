use Rattle.std.proofs.Common.{◌≡◌, length}
use Rattle.mh_find.specs.Goal.{holds}
use Rattle.mh_find.proofs.goal.holds.Given as goal

abbrev pub decreases-loop-rest : goal.decreases-loop-rest
decreases-loop-rest l = length l.rest

abbrev pub invariant-loop-rest : goal.invariant-loop-rest
invariant-loop-rest l = holds l.text l.rest ≡ holds l.text l.row
