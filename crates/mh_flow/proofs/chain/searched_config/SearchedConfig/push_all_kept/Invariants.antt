use Rattle.std.proofs.Common.{◌≡◌, ◌++◌, drop}
use Rattle.std.specs.List.{flat_map}
use Rattle.mh_flow.specs.Steps.{ground_of, kept_moves}
use Rattle.mh_flow.proofs.chain.searched_config.SearchedConfig.push_all_kept.Given as goal

abbrev pub invariant-loop-part : goal.invariant-loop-part
invariant-loop-part l =
    l.moves.items ++ flat_map (kept_moves (ground_of l.self) l.to) (drop l.part-index l.parts)
    ≡ l.initial.moves.items ++ flat_map (kept_moves (ground_of l.self) l.to) l.parts
