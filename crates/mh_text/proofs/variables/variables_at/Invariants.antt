-- What is found, and the variables in the tokens that are left, are together the variables of all. No
-- more brackets stand open than tokens have been passed.
use Rattle.std.proofs.Common.{◌≡◌, ◌+◌, ◌++◌, ◌≤◌, suc, length}
use Rattle.mh_text.specs.Marks.{pieces_of}
use Rattle.mh_text.specs.Landmarks.{coming_of, variables_from, variables_at}
use Rattle.mh_text.proofs.variables.variables_at.Given as goal

abbrev pub invariant-loop-next : goal.invariant-loop-next
invariant-loop-next l =
    (l.found.items ++ variables_from l.brackets (coming_of l.coming) (pieces_of l.next l.place) ≡ variables_at l.fn.bytes l.fn.start)
    × (l.brackets + length (pieces_of l.next l.place) ≤ suc (length l.fn.bytes))

abbrev pub decreases-loop-next : goal.decreases-loop-next
decreases-loop-next l = length (pieces_of l.next l.place)
