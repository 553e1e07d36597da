use Rattle.std.proofs.Common.{◌≡◌, ◌++◌, drop}
use Rattle.mh_protocol.specs.Uris.{unescaped, unescaped_behind}
use Rattle.mh_protocol.proofs.uri.unescaped.Given as goal

abbrev pub invariant-loop-byte : goal.invariant-loop-byte
invariant-loop-byte l = l.found.items ++ unescaped_behind l.awaited (drop l.byte-index l.bytes) ≡ unescaped l.bytes
