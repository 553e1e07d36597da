use Rattle.std.proofs.Common.{◌≡◌, [], drop}
use Rattle.mh_flow.specs.Chart.{with_references}
use Rattle.mh_flow.proofs.chain.sought.each_once.Given as goal

abbrev pub invariant-loop-at : goal.invariant-loop-at
invariant-loop-at l = with_references l.sought.keys (drop l.at-index l.references) ≡ with_references [] l.references
