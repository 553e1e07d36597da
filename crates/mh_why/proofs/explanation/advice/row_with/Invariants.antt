use Rattle.std.proofs.Common.{◌≡◌, length}
use Rattle.std.specs.Prelude.{map}
use Rattle.mh_why.specs.Advice.{row_with, cells}
use Rattle.mh_why.proofs.explanation.advice.row_with.Given as goal

abbrev pub invariant-loop-left : goal.invariant-loop-left
invariant-loop-left l = row_with (map cells l.left) l.word ≡ row_with (map cells l.fn.rows) l.word

abbrev pub decreases-loop-left : goal.decreases-loop-left
decreases-loop-left l = length l.left
