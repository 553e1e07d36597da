use Rattle.std.proofs.Common.{◌≡◌, ◌++◌, drop}
use Rattle.std.specs.List.{flat_map}
use Rattle.mh_layers.specs.Layered.{active_nodes, nodes_active}
use Rattle.mh_layers.specs.Reading.{flow_read}
use Rattle.mh_layers.proofs.laying.roots.push_effects.Given as goal

abbrev pub invariant-loop-config : goal.invariant-loop-config
invariant-loop-config l =
    l.nodes.items ++ flat_map (nodes_active l.numbered_service) (drop l.config-index (flow_read l.numbered_service).configs) ≡ l.initial.nodes.items ++ active_nodes l.numbered_service
