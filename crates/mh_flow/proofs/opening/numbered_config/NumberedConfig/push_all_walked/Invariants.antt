use Rattle.std.proofs.Common.{◌≡◌, ◌++◌, drop}
use Rattle.std.specs.List.{flat_map}
use Rattle.mh_flow.specs.Opening.{walked}
use Rattle.mh_flow.proofs.opening.numbered_config.NumberedConfig.push_all_walked.Given as goal

abbrev pub invariant-loop-walk : goal.invariant-loop-walk
invariant-loop-walk l =
    l.items.items ++ flat_map (walked l.self.service l.self.chart l.self.number l.self.config l.self.bases l.at) (drop l.walk-index l.walks)
    ≡ l.initial.items.items ++ flat_map (walked l.self.service l.self.chart l.self.number l.self.config l.self.bases l.at) l.walks
