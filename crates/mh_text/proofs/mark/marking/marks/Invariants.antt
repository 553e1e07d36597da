-- What is found, and the marks of the tokens that are left, are together the marks of all.
use Rattle.std.proofs.Common.{◌≡◌, ◌++◌, length}
use Rattle.mh_text.specs.Marks.{marks, marks_from}
use Rattle.mh_text.proofs.mark.marking.marks.Given as goal

abbrev pub invariant-loop-found : goal.invariant-loop-found
invariant-loop-found l = l.found.items ++ marks_from l.spot l.place.pieces ≡ marks l.fn.bytes

abbrev pub decreases-loop-found : goal.decreases-loop-found
decreases-loop-found l = length l.place.pieces
