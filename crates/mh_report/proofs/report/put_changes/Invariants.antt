use Rattle.std.proofs.Common.{◌≡◌, ◌++◌}
use Rattle.std.specs.List.{flat_map, range_with_len}
use Rattle.mh_told.specs.Frame.{row_change}
use Rattle.mh_report.proofs.report.put_changes.Given as goal

abbrev pub invariant-loop-row : goal.invariant-loop-row
invariant-loop-row l = l.text ≡ l.initial.text ++ flat_map (row_change l.before l.after) (range_with_len 0 l.row)
