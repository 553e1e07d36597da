use Rattle.std.proofs.Common.{◌≡◌, ◌++◌, filter}
use Rattle.mh_flow.specs.Solved.{is_reached, reached_configs}
use Rattle.mh_flow.proofs.chart.Chart.reached.Given as goal

abbrev pub invariant-loop-config : goal.invariant-loop-config
invariant-loop-config l = l.configs.items ++ filter (is_reached l.self l.sets) l.config-iterator ≡ reached_configs l.self l.sets
