use Rattle.std.proofs.Common.{◌≡◌, ◌++◌, drop}
use Rattle.std.specs.List.{flat_map}
use Rattle.mh_flow.specs.Steps.{ground_of, site_moves}
use Rattle.mh_flow.proofs.chain.searched_config.SearchedConfig.push_sites.Given as goal

abbrev pub invariant-loop-site : goal.invariant-loop-site
invariant-loop-site l =
    l.moves.items ++ flat_map (site_moves (ground_of l.self)) (drop l.site-index l.sites)
    ≡ l.initial.moves.items ++ flat_map (site_moves (ground_of l.self)) l.sites
