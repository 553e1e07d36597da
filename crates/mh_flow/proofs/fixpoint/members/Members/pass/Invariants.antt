use Rattle.mh_flow.specs.Membership.{rows_of}
use Rattle.mh_flow.proofs.MemberLemmas.{IsPassing}
use Rattle.mh_flow.proofs.fixpoint.members.Members.pass.Given as goal

abbrev pub invariant-loop-at : goal.invariant-loop-at
invariant-loop-at l = IsPassing (rows_of l.initial.self) (rows_of l.self) l.to l.row l.at
