-- What is printed and what is left are together what is to be printed.
use Rattle.std.proofs.Common.{◌≡◌, ◌++◌, drop}
use Rattle.std.specs.List.{flat_map}
use Rattle.mh_text.specs.Printed.{quoted}
use Rattle.mh_text.proofs.printing.value.put_quoted.Given as goal

abbrev pub invariant-loop-byte : goal.invariant-loop-byte
invariant-loop-byte l = l.out.items ++ flat_map quoted (drop l.byte-index l.bytes) ≡ l.fn.out.items ++ flat_map quoted l.bytes
