use Rattle.mh_flow.specs.Rows.{row}
use Rattle.mh_flow.specs.Membership.{rows_of}
use Rattle.mh_flow.proofs.MemberLemmas.{IsPassing}
use Rattle.mh_flow.proofs.fixpoint.members.Members.carry.Given as goal

abbrev pub invariant-loop-at : goal.invariant-loop-at
invariant-loop-at l = IsPassing (rows_of l.initial.self) (rows_of l.self) l.to (row (rows_of l.initial.self).known l.from) l.at
