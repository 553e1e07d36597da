use Rattle.std.proofs.Common.{◌≡◌, true, take}
use Rattle.std.specs.List.{list_all}
use Rattle.mh_told.specs.Frame.{row_cells}
use Rattle.mh_look.specs.Report.{is_shown}
use Rattle.mh_look.proofs.report.shown.is_row_shown.Given as goal

abbrev pub invariant-loop-column : goal.invariant-loop-column
invariant-loop-column l = list_all is_shown (take l.column (row_cells l.picture l.row)) ≡ true
