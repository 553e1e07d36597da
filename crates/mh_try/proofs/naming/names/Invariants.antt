use Rattle.std.proofs.Common.{◌≡◌, length}
use Rattle.mh_try.specs.Naming.{names}
use Rattle.mh_try.proofs.naming.names.Given as goal

abbrev pub decreases-loop-rest : goal.decreases-loop-rest
decreases-loop-rest l = length l.rest

abbrev pub invariant-loop-rest : goal.invariant-loop-rest
invariant-loop-rest l = names l.words l.rest ≡ names l.words l.line
