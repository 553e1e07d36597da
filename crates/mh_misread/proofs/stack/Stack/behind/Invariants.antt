use Rattle.std.proofs.Common.{◌≡◌, drop}
use Rattle.mh_misread.specs.Goals.{behind_pieces, wanted_behind}
use Rattle.mh_misread.proofs.stack.Stack.behind.Given as goal

abbrev pub invariant-loop-piece : goal.invariant-loop-piece
invariant-loop-piece l = behind_pieces (drop l.piece-index l.pieces) l.stack ≡ wanted_behind l.fn.pieces
