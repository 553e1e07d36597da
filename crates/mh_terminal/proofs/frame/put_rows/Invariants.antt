use Rattle.std.proofs.Common.{◌≡◌, ◌++◌}
use Rattle.std.specs.List.{flat_map, range_with_len}
use Rattle.mh_terminal.specs.Frames.{shown_row}
use Rattle.mh_terminal.proofs.frame.put_rows.Given as goal

abbrev pub invariant-loop-row : goal.invariant-loop-row
invariant-loop-row l = l.text ≡ l.initial.text ++ flat_map (shown_row l.plain l.picture) (range_with_len 0 l.row)
