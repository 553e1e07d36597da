use Rattle.std.proofs.Common.{◌≡◌, ◌++◌, [], length}
use Rattle.mh_cause.specs.Lists.{classes_from}
use Rattle.mh_cause.proofs.lists.put_classes_in.Given as goal

abbrev pub invariant-loop-left : goal.invariant-loop-left
invariant-loop-left l = l.text ++ classes_from l.front l.wanted l.left ≡ l.fn.text ++ classes_from [] l.wanted l.classes

abbrev pub decreases-loop-left : goal.decreases-loop-left
decreases-loop-left l = length l.left
