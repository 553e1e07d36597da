use Rattle.std.proofs.Common.{◌≡◌, ◌++◌, [], length}
use Rattle.mh_cause.specs.Lists.{kinds_from}
use Rattle.mh_cause.proofs.lists.put_kinds_in.Given as goal

abbrev pub invariant-loop-left : goal.invariant-loop-left
invariant-loop-left l = l.text ++ kinds_from l.front l.passing l.left ≡ l.fn.text ++ kinds_from [] l.passing l.kinds

abbrev pub decreases-loop-left : goal.decreases-loop-left
decreases-loop-left l = length l.left
