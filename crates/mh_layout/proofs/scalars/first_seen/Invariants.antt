use Rattle.std.proofs.Common.{◌≡◌, length}
use Rattle.mh_model.specs.Scalars.{scalars_of}
use Rattle.mh_layout.proofs.scalars.first_seen.Given as goal

abbrev pub invariant-loop-rest : goal.invariant-loop-rest
invariant-loop-rest l = scalars_of l.rest ≡ scalars_of l.text

abbrev pub decreases-loop-rest : goal.decreases-loop-rest
decreases-loop-rest l = length l.rest
