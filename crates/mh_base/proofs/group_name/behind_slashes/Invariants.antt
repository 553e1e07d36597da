use Rattle.std.proofs.Common.{◌≡◌, length}
use Rattle.mh_base.specs.Path.{behind_slashes}
use Rattle.mh_base.proofs.group_name.behind_slashes.Given as goal

abbrev pub invariant-loop-rest : goal.invariant-loop-rest
invariant-loop-rest l = behind_slashes l.rest ≡ behind_slashes l.bytes

abbrev pub decreases-loop-rest : goal.decreases-loop-rest
decreases-loop-rest l = length l.rest
