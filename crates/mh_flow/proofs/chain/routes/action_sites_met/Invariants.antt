use Rattle.std.proofs.Common.{◌≡◌, [], drop}
use Rattle.mh_flow.specs.Routes.{action_sites_from}
use Rattle.mh_flow.proofs.chain.routes.action_sites_met.Given as goal

abbrev pub invariant-loop-made : goal.invariant-loop-made
invariant-loop-made l = action_sites_from l.action_sites.keys (drop l.made-index l.moves) ≡ action_sites_from [] l.moves
