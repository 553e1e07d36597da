-- What is sought stands among the tokens that are left.
use Rattle.std.proofs.Common.{◌≡◌, length}
use Rattle.mh_text.specs.Landmarks.{pieces_at}
use Rattle.mh_text.proofs.variables.token_at.Given as goal

abbrev pub invariant-loop-piece : goal.invariant-loop-piece
invariant-loop-piece l = pieces_at l.start l.place.pieces ≡ pieces_at l.start l.fn.place.pieces

abbrev pub decreases-loop-piece : goal.decreases-loop-piece
decreases-loop-piece l = length l.place.pieces
