use Rattle.std.proofs.Common.{◌≡◌, ◌++◌, drop, suc, length}
use Rattle.mh_flow.specs.Sites.{through_effects}
use Rattle.mh_flow.proofs.sites.push_slots.Given as goal

abbrev pub invariant-loop-slot : goal.invariant-loop-slot
invariant-loop-slot l = l.sites.items ++ through_effects l.key (suc (length l.sites.items)) (drop l.slot-index l.slots) ≡ l.initial.sites.items ++ through_effects l.key (suc (length l.initial.sites.items)) l.slots
