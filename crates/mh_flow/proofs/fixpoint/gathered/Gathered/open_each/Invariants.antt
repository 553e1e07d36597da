use Rattle.mh_flow.specs.Gathering.{view}
use Rattle.mh_flow.proofs.StepLemmas.{IsOpening}
use Rattle.mh_flow.proofs.fixpoint.gathered.Gathered.open_each.Given as goal

abbrev pub invariant-loop-member : goal.invariant-loop-member
invariant-loop-member g l = IsOpening (g.R.Rules.system l.rules) l.node l.members l.member-index (view l.initial.self) (view l.self)
