use Rattle.std.proofs.Common.{◌≡◌, ◌+◌, drop, false}
use Rattle.mh_text.specs.Lexing.{gap_length}
use Rattle.mh_text.proofs.lexing.long_gap_length.Given as goal

abbrev pub invariant-loop-at : goal.invariant-loop-at
invariant-loop-at l = gap_length l.is_comment (drop l.at l.bytes) + l.at ≡ gap_length false l.bytes
