use Rattle.std.proofs.Common.{◌≡◌, ◌++◌, drop}
use Rattle.mh_flow.specs.Chart.{first_sets, led_from}
use Rattle.mh_flow.proofs.chart.numbering.first_sets.Given as goal

abbrev pub invariant-loop-number : goal.invariant-loop-number
invariant-loop-number l = l.sets.items ++ led_from l.number (drop l.number l.configs) ≡ first_sets l.configs
