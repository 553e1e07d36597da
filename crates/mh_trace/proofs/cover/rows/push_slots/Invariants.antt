use Rattle.std.proofs.Common.{◌≡◌, ◌++◌, ◌+◌, drop}
use Rattle.mh_trace.specs.Cover.{slot_rows}
use Rattle.mh_trace.proofs.cover.rows.push_slots.Given as goal

abbrev pub invariant-loop-index : goal.invariant-loop-index
invariant-loop-index l =
    l.rows.items ++ slot_rows l.done.keys l.at l.member (l.index + 1) (drop l.index l.slots) ≡ l.initial.rows.items ++ slot_rows l.done.keys l.at l.member 1 l.slots
