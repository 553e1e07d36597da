use Rattle.mh_flow.specs.Gathering.{view}
use Rattle.mh_flow.proofs.StepLemmas.{IsPutting}
use Rattle.mh_flow.proofs.fixpoint.gathered.Gathered.put_each.Given as goal

abbrev pub invariant-loop-item : goal.invariant-loop-item
invariant-loop-item g l = IsPutting (g.R.Rules.system l.rules) l.items l.item-index (view l.initial.self) (view l.self)
