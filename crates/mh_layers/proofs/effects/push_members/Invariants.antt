use Rattle.std.proofs.Common.{◌≡◌, ◌++◌, drop, map}
use Rattle.std.specs.List.{flat_map}
use Rattle.mh_layers.proofs.effects.push_members.Given as goal

abbrev pub invariant-loop-member : goal.invariant-loop-member
invariant-loop-member l =
    map (λ e. e.now) l.effects.items ++ flat_map (λ m. m.slots) (drop l.member-index l.members)
    ≡ map (λ e. e.now) l.initial.effects.items ++ flat_map (λ m. m.slots) l.members
