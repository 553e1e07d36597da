use Rattle.std.proofs.Common.{◌≡◌, ◌+◌, ◌++◌, drop, length}
use Rattle.mh_flow.specs.Chart.{sets_in}
use Rattle.mh_flow.proofs.chart.numbering.push_held.Given as goal

abbrev pub invariant-loop-place : goal.invariant-loop-place
invariant-loop-place l =
    l.sets.items ++ sets_in l.config (length l.before + l.place) (drop l.place l.parts) ≡ l.initial.sets.items ++ sets_in l.config (length l.before) l.parts
