use Rattle.std.proofs.Common.{◌≡◌, ◌++◌, drop}
use Rattle.mh_findings.specs.Short.{tamed, tamed_behind}
use Rattle.mh_findings.proofs.short.put_tamed.Given as goal

abbrev pub invariant-loop-byte : goal.invariant-loop-byte
invariant-loop-byte l = l.text ++ tamed_behind l.before (drop l.byte-index l.bytes) ≡ l.fn.text ++ tamed l.bytes
