use Rattle.std.proofs.Common.{◌≡◌, ◌++◌, ◌+◌, ◌*◌, drop}
use Rattle.mh_flow.specs.Rows.{places_from}
use Rattle.mh_flow.proofs.fixpoint.bits.Bits.put_places.Given as goal

abbrev pub invariant-loop-bit : goal.invariant-loop-bit
invariant-loop-bit l =
    l.found.items ++ places_from (64 * l.at + l.bit) (drop (64 * l.at + l.bit) l.self) ≡ l.initial.found.items ++ places_from (64 * l.at) (drop (64 * l.at) l.self)
