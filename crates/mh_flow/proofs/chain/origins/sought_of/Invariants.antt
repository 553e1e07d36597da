use Rattle.std.proofs.Common.{◌≡◌, ◌++◌, drop, filter}
use Rattle.mh_flow.specs.Steps.{is_one_of}
use Rattle.mh_flow.proofs.chain.origins.sought_of.Given as goal

abbrev pub invariant-loop-at : goal.invariant-loop-at
invariant-loop-at l = l.list.items ++ filter (is_one_of l.sought.keys) (drop l.at-index l.references) ≡ filter (is_one_of l.sought.keys) l.references
