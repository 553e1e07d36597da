use Rattle.std.proofs.Common.{◌≡◌, ◌++◌, drop}
use Rattle.std.specs.List.{flat_map}
use Rattle.mh_flow.specs.Steps.{ground_of, done_moves}
use Rattle.mh_flow.proofs.chain.searched_config.SearchedConfig.push_all_done.Given as goal

abbrev pub invariant-loop-at : goal.invariant-loop-at
invariant-loop-at l =
    l.moves.items ++ flat_map (done_moves (ground_of l.self) l.site) (drop l.at-index l.targets)
    ≡ l.initial.moves.items ++ flat_map (done_moves (ground_of l.self) l.site) l.targets
