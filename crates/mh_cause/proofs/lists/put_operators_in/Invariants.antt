use Rattle.std.proofs.Common.{◌≡◌, ◌++◌, [], length}
use Rattle.mh_cause.specs.Lists.{operators_from}
use Rattle.mh_cause.proofs.lists.put_operators_in.Given as goal

abbrev pub invariant-loop-left : goal.invariant-loop-left
invariant-loop-left l = l.text ++ operators_from l.front l.kind l.left ≡ l.fn.text ++ operators_from [] l.kind l.operators

abbrev pub decreases-loop-left : goal.decreases-loop-left
decreases-loop-left l = length l.left
