use Rattle.std.proofs.Common.{◌≡◌, drop}
use Rattle.std.specs.List.{list_any}
use Rattle.mh_why.specs.Through.{is_variable}
use Rattle.mh_why.proofs.explanation.through.goes_through.Given as goal

abbrev pub invariant-loop-variable : goal.invariant-loop-variable
invariant-loop-variable l =
    list_any (is_variable l.from l.group l.number) (drop l.variable-index l.variables) ≡ list_any (is_variable l.from l.group l.number) l.variables
