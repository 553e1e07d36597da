use Rattle.std.proofs.Common.{◌≡◌, ◌++◌}
use Rattle.std.specs.List.{flat_map, range_with_len}
use Rattle.mh_live.specs.Screen.{changed_row}
use Rattle.mh_live.proofs.drawing.put_changed_rows.Given as goal

abbrev pub invariant-loop-row : goal.invariant-loop-row
invariant-loop-row l = l.text ≡ l.initial.text ++ flat_map (changed_row l.before l.after) (range_with_len 0 l.row)
