use Rattle.std.proofs.Common.{◌≡◌, ◌++◌, ◌+◌, drop}
use Rattle.mh_trace.specs.Cover.{member_rows}
use Rattle.mh_trace.proofs.cover.rows.push_members.Given as goal

abbrev pub invariant-loop-index : goal.invariant-loop-index
invariant-loop-index l =
    l.rows.items ++ member_rows l.done.keys l.at (l.index + 1) (drop l.index l.members) ≡ l.initial.rows.items ++ member_rows l.done.keys l.at 1 l.members
