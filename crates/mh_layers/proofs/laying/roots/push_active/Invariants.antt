use Rattle.std.proofs.Common.{◌≡◌, ◌++◌, drop, filter}
use Rattle.std.specs.List.{flat_map}
use Rattle.mh_laws.specs.Active.{is_active}
use Rattle.mh_layers.specs.Layered.{nodes_at}
use Rattle.mh_layers.proofs.laying.roots.push_active.Given as goal

abbrev pub invariant-loop-part : goal.invariant-loop-part
invariant-loop-part l =
    l.nodes.items ++ flat_map (nodes_at l.numbered_service l.config) (filter (is_active l.present) (drop l.part-index l.parts))
    ≡ l.initial.nodes.items ++ flat_map (nodes_at l.numbered_service l.config) (filter (is_active l.present) l.parts)
