use Rattle.std.proofs.Common.{◌≡◌, ◌++◌, drop}
use Rattle.std.specs.List.{flat_map}
use Rattle.std.specs.Prelude.{List}
use Rattle.mh_model.specs.declared.act.Act.{Act}
use Rattle.mh_lint.proofs.uses.objects.push_slots.Given as goal

abbrev pub invariant-loop-slot : goal.invariant-loop-slot
invariant-loop-slot l =
    l.all.items ++ flat_map (λ (slot : List Act). slot) (drop l.slot-index l.slots) ≡ l.initial.all.items ++ flat_map (λ (slot : List Act). slot) l.slots
