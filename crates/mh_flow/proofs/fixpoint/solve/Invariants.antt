use Rattle.mh_flow.specs.Gathering.{view}
use Rattle.mh_flow.specs.Membership.{rows_of, left}
use Rattle.mh_flow.proofs.FixpointLemmas.{IsSearching}
use Rattle.mh_flow.proofs.fixpoint.solve.Given as goal

abbrev pub invariant-loop-node : goal.invariant-loop-node
invariant-loop-node g l = IsSearching (g.R.Rules.system l.rules) (view l.gathered)

abbrev pub decreases-loop-node : goal.decreases-loop-node
decreases-loop-node g l = left (rows_of l.gathered.members)
