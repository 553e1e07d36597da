use Rattle.std.proofs.Common.{◌≡◌, ◌+◌, drop, length, take}
use Rattle.std.specs.List.{flat_map, sum_by}
use Rattle.mh_evidence.proofs.effects.behind_slots_before.Given as goal

abbrev pub invariant-loop-member : goal.invariant-loop-member
invariant-loop-member l =
    l.left + sum_by (λ e. length e) (take l.number (flat_map (λ m. m.slots) l.members))
    ≡ l.count + sum_by (λ e. length e) (take l.slots_left (flat_map (λ m. m.slots) (drop l.member-index l.members)))
