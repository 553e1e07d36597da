use Rattle.std.proofs.Common.{◌≡◌, drop}
use Rattle.mh_flow.specs.Routes.{holders_from, holders_met}
use Rattle.mh_flow.proofs.chain.routes.holders_met.Given as goal

abbrev pub invariant-loop-made : goal.invariant-loop-made
invariant-loop-made l = holders_from l.holders.keys (drop l.made-index l.moves) ≡ holders_met l.moves
