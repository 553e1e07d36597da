use Rattle.std.proofs.Common.{◌≡◌, ◌++◌, drop}
use Rattle.mh_flow.specs.Routes.{links_of}
use Rattle.mh_flow.proofs.chain.routes.links_of.Given as goal

abbrev pub invariant-loop-arrow : goal.invariant-loop-arrow
invariant-loop-arrow l = l.links.items ++ links_of l.holders.keys l.action_sites.keys (drop l.arrow-index l.trail) ≡ links_of l.holders.keys l.action_sites.keys l.trail
