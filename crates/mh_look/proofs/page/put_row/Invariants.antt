use Rattle.std.proofs.Common.{◌≡◌, ◌++◌}
use Rattle.std.specs.List.{flat_map, range_with_len}
use Rattle.mh_look.specs.Page.{page_cell}
use Rattle.mh_look.proofs.page.put_row.Given as goal

abbrev pub invariant-loop-column : goal.invariant-loop-column
invariant-loop-column l = l.text ≡ l.initial.text ++ flat_map (page_cell l.before l.after l.row) (range_with_len 0 l.column)
