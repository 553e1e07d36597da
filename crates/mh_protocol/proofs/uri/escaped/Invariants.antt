use Rattle.std.proofs.Common.{◌≡◌, ◌++◌, drop}
use Rattle.mh_protocol.specs.Uris.{escaped}
use Rattle.mh_protocol.proofs.uri.escaped.Given as goal

abbrev pub invariant-loop-byte : goal.invariant-loop-byte
invariant-loop-byte l = l.found.items ++ escaped (drop l.byte-index l.bytes) ≡ escaped l.bytes
