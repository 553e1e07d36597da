use Rattle.std.proofs.Common.{◌≡◌, ◌++◌, ◌*◌, drop}
use Rattle.mh_flow.specs.Rows.{places_from}
use Rattle.mh_flow.proofs.fixpoint.bits.Bits.places.Given as goal

abbrev pub invariant-loop-at : goal.invariant-loop-at
invariant-loop-at l = l.found.items ++ places_from (64 * l.at) (drop (64 * l.at) l.self) ≡ places_from 0 l.self
