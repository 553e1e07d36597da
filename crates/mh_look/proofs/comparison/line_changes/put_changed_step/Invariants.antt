use Rattle.std.proofs.Common.{◌≡◌, ◌++◌, length}
use Rattle.mh_look.specs.LineChanges.{changed_step}
use Rattle.mh_look.proofs.comparison.line_changes.put_changed_step.Given as goal

abbrev pub invariant-loop-one : goal.invariant-loop-one
invariant-loop-one l = l.text ++ changed_step l.passed l.ones l.others ≡ l.initial.text ++ changed_step l.passed l.fn.first l.fn.second

abbrev pub decreases-loop-one : goal.decreases-loop-one
decreases-loop-one l = length l.ones
