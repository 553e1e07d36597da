use Rattle.std.proofs.Common.{◌≡◌, ◌++◌, drop}
use Rattle.std.specs.List.{flat_map}
use Rattle.mh_flow.specs.Steps.{ground_of, first_moves}
use Rattle.mh_flow.proofs.chain.searched_config.SearchedConfig.push_firsts.Given as goal

abbrev pub invariant-loop-part : goal.invariant-loop-part
invariant-loop-part l =
    l.moves.items ++ flat_map (first_moves (ground_of l.self)) (drop l.part-index l.parts)
    ≡ l.initial.moves.items ++ flat_map (first_moves (ground_of l.self)) l.parts
