use Rattle.mh_flow.specs.Gathering.{view}
use Rattle.mh_flow.proofs.StepLemmas.{IsSpreading}
use Rattle.mh_flow.proofs.fixpoint.gathered.Gathered.spread.Given as goal

abbrev pub invariant-loop-place : goal.invariant-loop-place
invariant-loop-place g l = IsSpreading (g.R.Rules.system l.rules) l.node l.row l.place (view l.initial.self) (view l.self)
