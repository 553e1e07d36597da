use Rattle.std.proofs.Common.{◌≡◌, ◌++◌, drop}
use Rattle.mh_verdict.specs.Lines.{cycle_lines}
use Rattle.mh_verdict.proofs.lines.put_cycle.Given as goal

abbrev pub invariant-loop-arrow : goal.invariant-loop-arrow
invariant-loop-arrow l = l.text ++ cycle_lines (drop l.arrow-index l.cycle) ≡ l.initial.text ++ cycle_lines l.cycle
