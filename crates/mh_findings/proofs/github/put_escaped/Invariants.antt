use Rattle.std.proofs.Common.{◌≡◌, ◌++◌, drop}
use Rattle.mh_findings.specs.Github.{escaped}
use Rattle.mh_findings.proofs.github.put_escaped.Given as goal

abbrev pub invariant-loop-byte : goal.invariant-loop-byte
invariant-loop-byte l = l.text ++ escaped (drop l.byte-index l.bytes) ≡ l.initial.text ++ escaped l.bytes
