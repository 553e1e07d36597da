use Rattle.std.proofs.Common.{◌≡◌, ◌++◌}
use Rattle.std.specs.List.{flat_map, range_with_len}
use Rattle.mh_terminal.specs.Frames.{shown_cell}
use Rattle.mh_terminal.proofs.frame.put_row.Given as goal

abbrev pub invariant-loop-column : goal.invariant-loop-column
invariant-loop-column l = l.text ≡ l.initial.text ++ flat_map (shown_cell l.plain l.picture l.row) (range_with_len 0 l.column)
