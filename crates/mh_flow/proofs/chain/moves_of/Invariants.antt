use Rattle.std.proofs.Common.{◌≡◌, ◌++◌, drop}
use Rattle.std.specs.List.{flat_map}
use Rattle.mh_flow.specs.Solved.{flow_of}
use Rattle.mh_flow.specs.Steps.{searched_in, moves_in, moves_of}
use Rattle.mh_flow.proofs.chain.moves_of.Given as goal

abbrev pub invariant-loop-config : goal.invariant-loop-config
invariant-loop-config l =
    l.moves.items ++ flat_map (λ c. moves_in (searched_in l.service (flow_of l.service l.flow.chart l.flow.rows) l.sought.keys c)) (drop l.config-index l.config-items)
    ≡ moves_of l.service (flow_of l.service l.flow.chart l.flow.rows) l.sought.keys
