use Rattle.std.proofs.Common.{◌≡◌, ◌++◌}
use Rattle.std.specs.List.{flat_map, range_with_len}
use Rattle.mh_live.specs.Screen.{drawn_row}
use Rattle.mh_live.proofs.drawing.put_rows.Given as goal

abbrev pub invariant-loop-row : goal.invariant-loop-row
invariant-loop-row l = l.text ≡ l.initial.text ++ flat_map (drawn_row l.picture) (range_with_len 0 l.row)
