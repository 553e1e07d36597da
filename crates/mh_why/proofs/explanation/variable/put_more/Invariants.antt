use Rattle.std.proofs.Common.{◌≡◌, ◌++◌, drop}
use Rattle.mh_why.specs.Sources.{more_variables}
use Rattle.mh_why.proofs.explanation.variable.put_more.Given as goal

abbrev pub invariant-loop-variable : goal.invariant-loop-variable
invariant-loop-variable l = l.words ++ more_variables l.from (drop l.variable-index l.variables) ≡ l.initial.words ++ more_variables l.from l.variables
