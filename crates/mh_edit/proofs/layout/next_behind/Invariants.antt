use Rattle.std.proofs.Common.{◌≡◌, length}
use Rattle.mh_edit.specs.Layout.{next_behind}
use Rattle.mh_edit.proofs.layout.next_behind.Given as goal

abbrev pub invariant-loop-word : goal.invariant-loop-word
invariant-loop-word l = next_behind l.end l.depth l.left ≡ next_behind l.end l.fn.depth l.fn.words

abbrev pub decreases-loop-word : goal.decreases-loop-word
decreases-loop-word l = length l.left
