use Rattle.std.proofs.Common.{◌≡◌, ◌++◌, drop}
use Rattle.mh_trace.specs.Cover.{group_lines}
use Rattle.mh_trace.proofs.cover.put_groups.Given as goal

abbrev pub invariant-loop-group : goal.invariant-loop-group
invariant-loop-group l = l.text ++ group_lines l.tap (drop l.group-index l.groups) ≡ l.initial.text ++ group_lines l.tap l.groups
