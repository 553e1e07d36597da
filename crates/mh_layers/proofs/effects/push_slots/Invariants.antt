use Rattle.std.proofs.Common.{◌≡◌, ◌++◌, drop, map}
use Rattle.mh_layers.proofs.effects.push_slots.Given as goal

abbrev pub invariant-loop-slot : goal.invariant-loop-slot
invariant-loop-slot l = map (λ e. e.now) l.effects.items ++ drop l.slot-index l.slots ≡ map (λ e. e.now) l.initial.effects.items ++ l.slots
