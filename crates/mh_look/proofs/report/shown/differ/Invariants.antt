use Rattle.std.proofs.Common.{◌≡◌, false, take}
use Rattle.std.specs.List.{list_any}
use Rattle.mh_look.proofs.RowLemmas.{apart, pairs}
use Rattle.mh_look.proofs.report.shown.differ.Given as goal

abbrev pub invariant-loop-column : goal.invariant-loop-column
invariant-loop-column l = list_any apart (take l.column (pairs l.one l.other l.row)) ≡ false
