use Rattle.std.proofs.Common.{◌≡◌, ◌++◌, drop}
use Rattle.mh_flow.specs.Routes.{starts_of}
use Rattle.mh_flow.proofs.chain.routes.starts_of.Given as goal

abbrev pub invariant-loop-made : goal.invariant-loop-made
invariant-loop-made l = l.starts.items ++ starts_of l.holders.keys l.action_sites.keys (drop l.made-index l.moves) ≡ starts_of l.holders.keys l.action_sites.keys l.moves
