use Rattle.std.specs.Prelude.{◌≡◌, length}
use Rattle.mh_group.specs.Same.{same_list}
use Rattle.mh_group.proofs.same.same_list.Given as goal

abbrev pub invariant-loop-left : goal.invariant-loop-left
invariant-loop-left g l = same_list g.T.Same.same l.left l.right ≡ same_list g.T.Same.same l.initial.left l.initial.right

abbrev pub decreases-loop-left : goal.decreases-loop-left
decreases-loop-left g l = length l.left
