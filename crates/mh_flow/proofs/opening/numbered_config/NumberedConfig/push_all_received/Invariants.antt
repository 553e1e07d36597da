use Rattle.std.proofs.Common.{◌≡◌, ◌++◌, drop}
use Rattle.std.specs.List.{flat_map}
use Rattle.mh_model.specs.Arguments.{receivers}
use Rattle.mh_flow.specs.Opening.{filled_in}
use Rattle.mh_flow.proofs.opening.numbered_config.NumberedConfig.push_all_received.Given as goal

abbrev pub invariant-loop-argument : goal.invariant-loop-argument
invariant-loop-argument l =
    l.items.items ++ flat_map (filled_in l.self.service l.self.chart l.self.config l.self.bases l.at) (receivers (drop l.argument-index l.arguments))
    ≡ l.initial.items.items ++ flat_map (filled_in l.self.service l.self.chart l.self.config l.self.bases l.at) (receivers l.arguments)
