use Rattle.std.proofs.Common.{◌≡◌, ◌++◌, drop}
use Rattle.std.specs.List.{flat_map}
use Rattle.mh_model.specs.Arguments.{receivers}
use Rattle.mh_flow.specs.Steps.{ground_of, received_moves}
use Rattle.mh_flow.proofs.chain.searched_config.SearchedConfig.push_all_received.Given as goal

abbrev pub invariant-loop-argument : goal.invariant-loop-argument
invariant-loop-argument l =
    l.moves.items ++ flat_map (received_moves (ground_of l.self) l.site l.at) (receivers (drop l.argument-index l.arguments))
    ≡ l.initial.moves.items ++ flat_map (received_moves (ground_of l.self) l.site l.at) (receivers l.arguments)
