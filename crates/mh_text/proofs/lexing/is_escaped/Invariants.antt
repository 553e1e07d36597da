use Rattle.std.proofs.Common.{◌≡◌, drop}
use Rattle.mh_text.specs.Lexing.{is_escaped}
use Rattle.mh_text.proofs.lexing.is_escaped.Given as goal

abbrev pub invariant-loop-byte : goal.invariant-loop-byte
invariant-loop-byte l = is_escaped l.wanted (drop l.byte-index l.bytes) ≡ is_escaped 0 l.bytes
