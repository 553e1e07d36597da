use Rattle.std.proofs.Common.{◌≡◌, drop}
use Rattle.std.specs.List.{flat_map}
use Rattle.indexmap.specs.IndexSet.{insert_all}
use Rattle.mh_alive.specs.Registers.{same_register, written_registers}
use Rattle.mh_alive.proofs.registers.put_parts.Given as goal

abbrev pub invariant-loop-part : goal.invariant-loop-part
invariant-loop-part l =
    insert_all same_register l.registers.keys (flat_map written_registers (drop l.part-index l.parts)) ≡ insert_all same_register l.initial.registers.keys (flat_map written_registers l.parts)
