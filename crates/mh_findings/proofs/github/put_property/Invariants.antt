use Rattle.std.proofs.Common.{◌≡◌, ◌++◌, drop}
use Rattle.mh_findings.specs.Github.{property}
use Rattle.mh_findings.proofs.github.put_property.Given as goal

abbrev pub invariant-loop-byte : goal.invariant-loop-byte
invariant-loop-byte l = l.text ++ property (drop l.byte-index l.bytes) ≡ l.initial.text ++ property l.bytes
