use Rattle.std.proofs.Common.{◌≡◌, ◌++◌, length}
use Rattle.mh_flow.specs.Chart.{based, sets_from}
use Rattle.mh_flow.proofs.chart.numbering.numbered.Given as goal

abbrev pub invariant-loop-config : goal.invariant-loop-config
invariant-loop-config l =
    (l.numbered.entries ++ based l.service (length l.sets.items) l.config-iterator.rest.items ≡ based l.service (length l.initial.sets.items) l.fn.configs.items)
    × (l.sets.items ++ sets_from l.service (length l.numbered.entries) l.config-iterator.rest.items ≡ l.initial.sets.items ++ sets_from l.service 0 l.fn.configs.items)
