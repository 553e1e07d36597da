use Rattle.std.proofs.Common.{◌≡◌, ◌++◌, drop}
use Rattle.std.specs.List.{flat_map}
use Rattle.mh_flow.specs.Opening.{held_first}
use Rattle.mh_flow.proofs.opening.numbered_config.NumberedConfig.push_all_firsts.Given as goal

abbrev pub invariant-loop-part : goal.invariant-loop-part
invariant-loop-part l =
    l.items.items ++ flat_map (held_first l.self.service l.self.chart l.self.config l.self.bases) (drop l.part-index l.parts)
    ≡ l.initial.items.items ++ flat_map (held_first l.self.service l.self.chart l.self.config l.self.bases) l.parts
