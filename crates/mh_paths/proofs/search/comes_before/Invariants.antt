use Rattle.std.proofs.Common.{◌+◌}
use Rattle.mh_paths.proofs.search.comes_before.Given as goal

abbrev pub decreases-loop-one : goal.decreases-loop-one
decreases-loop-one l = l.one.before + l.other.before
