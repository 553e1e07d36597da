use Rattle.std.proofs.Common.{◌≡◌, drop, map}
use Rattle.indexmap.specs.IndexSet.{insert_all}
use Rattle.mh_alive.specs.Registers.{register, same_register}
use Rattle.mh_alive.proofs.registers.put_each.Given as goal

abbrev pub invariant-loop-at : goal.invariant-loop-at
invariant-loop-at l =
    insert_all same_register l.registers.keys (map (λ r. register r l.number) (drop l.at-index l.objects)) ≡ insert_all same_register l.initial.registers.keys (map (λ r. register r l.number) l.objects)
