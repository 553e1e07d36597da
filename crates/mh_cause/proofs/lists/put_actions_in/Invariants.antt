use Rattle.std.proofs.Common.{◌≡◌, ◌++◌, [], length}
use Rattle.mh_cause.specs.Lists.{actions_from}
use Rattle.mh_cause.proofs.lists.put_actions_in.Given as goal

abbrev pub invariant-loop-left : goal.invariant-loop-left
invariant-loop-left l = l.text ++ actions_from l.front l.class l.left ≡ l.fn.text ++ actions_from [] l.class l.actions

abbrev pub decreases-loop-left : goal.decreases-loop-left
decreases-loop-left l = length l.left
