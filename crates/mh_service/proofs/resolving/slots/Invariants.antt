use Rattle.std.proofs.Common.{◌≡◌, ◌++◌, map, drop}
use Rattle.mh_service.specs.Resolved.{act_of, slots_lead}
use Rattle.mh_service.proofs.resolving.slots.Given as goal

abbrev pub invariant-loop-slot : goal.invariant-loop-slot
invariant-loop-slot l = record {
  found : l.slots ++ map (map (act_of l.from)) (drop l.slot-index l.written) ≡ map (map (act_of l.from)) l.written;
  good : slots_lead l.from (drop l.slot-index l.written) ≡ slots_lead l.from l.written;
}
