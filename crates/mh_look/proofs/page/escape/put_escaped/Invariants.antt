use Rattle.std.proofs.Common.{◌≡◌, ◌++◌, drop}
use Rattle.mh_look.specs.Page.{escaped}
use Rattle.mh_look.proofs.page.escape.put_escaped.Given as goal

abbrev pub invariant-loop-byte : goal.invariant-loop-byte
invariant-loop-byte l = l.text ++ escaped (drop l.byte-index l.bytes) ≡ l.initial.text ++ escaped l.bytes
