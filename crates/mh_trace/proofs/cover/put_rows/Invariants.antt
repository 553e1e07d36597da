use Rattle.std.proofs.Common.{◌≡◌, ◌++◌, drop}
use Rattle.mh_trace.specs.Cover.{row_lines}
use Rattle.mh_trace.proofs.cover.put_rows.Given as goal

abbrev pub invariant-loop-row : goal.invariant-loop-row
invariant-loop-row l = l.text ++ row_lines l.tap l.directory (drop l.row-index l.rows) ≡ l.initial.text ++ row_lines l.tap l.directory l.rows
