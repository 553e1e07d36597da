use Rattle.std.proofs.Common.{◌≡◌, ◌-◌, ◌++◌, length}
use Rattle.mh_misread.specs.Pieces.{pieces_from, pieces_before}
use Rattle.mh_misread.proofs.piece.pieces_before.Given as goal

abbrev pub invariant-loop : goal.invariant-loop
invariant-loop l = l.found.items ++ pieces_from (length l.file - l.counter) l.offset l.tokens ≡ pieces_before l.fn.file l.fn.offset
