use Rattle.std.proofs.Common.{◌≡◌, ◌∷◌, length}
use Rattle.mh_misread.specs.Misreads.{open_at, with_top}
use Rattle.mh_misread.proofs.syntax.open_at.Given as goal

abbrev pub invariant-loop-next : goal.invariant-loop-next
invariant-loop-next l = open_at (with_top l.next l.below) ≡ open_at (l.fn.frame ∷ l.fn.below)

abbrev pub decreases-loop-next : goal.decreases-loop-next
decreases-loop-next l = length (with_top l.next l.below)
