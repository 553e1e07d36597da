use Rattle.std.proofs.Common.{◌≡◌, ◌++◌, drop}
use Rattle.std.specs.List.{filter}
use Rattle.mh_misread.specs.Resuming.{is_line_end}
use Rattle.mh_misread.proofs.resuming.put_line_ends.Given as goal

abbrev pub invariant-loop-byte : goal.invariant-loop-byte
invariant-loop-byte l = l.text.items ++ filter is_line_end (drop l.byte-index l.bytes) ≡ l.initial.text.items ++ filter is_line_end l.bytes
