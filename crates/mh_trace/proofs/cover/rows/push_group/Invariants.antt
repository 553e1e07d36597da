use Rattle.std.proofs.Common.{◌≡◌, ◌++◌, drop}
use Rattle.mh_trace.specs.Cover.{group_rows}
use Rattle.mh_trace.proofs.cover.rows.push_group.Given as goal

abbrev pub invariant-loop-part : goal.invariant-loop-part
invariant-loop-part l = l.rows.items ++ group_rows l.done.keys (drop l.part-index l.parts) ≡ l.initial.rows.items ++ group_rows l.done.keys l.parts
