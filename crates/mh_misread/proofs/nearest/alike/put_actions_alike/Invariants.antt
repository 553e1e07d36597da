use Rattle.std.proofs.Common.{◌≡◌, ◌++◌, length}
use Rattle.mh_misread.specs.declared.phrases.TheConstants.{BEGIN_ALIKE}
use Rattle.mh_misread.specs.Mending.{actions_alike}
use Rattle.mh_misread.proofs.nearest.alike.put_actions_alike.Given as goal

abbrev pub invariant-loop-left : goal.invariant-loop-left
invariant-loop-left l =
    l.text ++ actions_alike l.before l.word l.left ≡ l.fn.text ++ actions_alike BEGIN_ALIKE.now l.word l.actions

abbrev pub decreases-loop-left : goal.decreases-loop-left
decreases-loop-left l = length l.left
