use Rattle.std.proofs.Common.{◌≡◌, ◌++◌, [], length}
use Rattle.mh_misread.specs.Telling.{classes_with}
use Rattle.mh_misread.proofs.wanted.put_classes_with.Given as goal

abbrev pub invariant-loop-left : goal.invariant-loop-left
invariant-loop-left l = l.text ++ classes_with l.front l.attribute l.left ≡ l.fn.text ++ classes_with [] l.attribute l.classes

abbrev pub decreases-loop-left : goal.decreases-loop-left
decreases-loop-left l = length l.left
