use Rattle.std.proofs.Common.{◌≡◌, ◌++◌, drop}
use Rattle.mh_live.specs.Asks.{asks_from, asks_of}
use Rattle.mh_live.proofs.asks.asks_of.Given as goal

abbrev pub invariant-loop-byte : goal.invariant-loop-byte
invariant-loop-byte l = l.asks.items ++ asks_from l.begun (drop l.byte-index l.bytes) ≡ asks_of l.bytes
