use Rattle.std.proofs.Common.{◌≡◌, ◌+◌, drop, length}
use Rattle.std.specs.List.{sum_by}
use Rattle.mh_evidence.proofs.effects.behind_slots.Given as goal

abbrev pub invariant-loop-slot : goal.invariant-loop-slot
invariant-loop-slot l = l.left + sum_by (λ slot. length slot) l.slots ≡ l.count + sum_by (λ slot. length slot) (drop l.slot-index l.slots)
