use Rattle.std.proofs.Common.{arith, ◌<◌, ℕ, sym, subst}
use Rattle.mh_flow.specs.Membership.{rows_of}
use Rattle.mh_flow.proofs.MemberLemmas.{pass_none, pass_next, passed}
use Rattle.mh_flow.proofs.fixpoint.members.Members.pass.Goals as goal

pub loop-at-init : goal.loop-at-init
loop-at-init c = pass_none (rows_of c.args.self.now) c.args.to c.args.row.now c.requires.members

pub put-requires-clause-members : goal.put-requires-clause-members
put-requires-clause-members c = c.loop-at.invariant.members

pub put-requires-clause-node : goal.put-requires-clause-node
put-requires-clause-node c = subst (λ (n : ℕ). c.args.to < n) (sym c.loop-at.invariant.put.height) c.requires.to

pub put-requires-clause-at : goal.put-requires-clause-at
put-requires-clause-at c = omega (arith, c.loop-at-test.true, c.words-at-end.ensures, c.requires.row, c.loop-at.invariant.put.words)

pub loop-at-preserved : goal.loop-at-preserved
loop-at-preserved c =
    pass_next (rows_of c.args.self.now) (rows_of c.loop-at.self) (rows_of c.put.new.self) c.args.to c.args.row.now c.loop-at.at c.word.result c.loop-at.invariant c.word.ensures c.in_ok-put.ensures.members c.in_ok-put.ensures.put

pub returns-clause-members : goal.returns-clause-members
returns-clause-members c = c.loop-at.invariant.members

pub returns-clause-put : goal.returns-clause-put
returns-clause-put c =
    passed (rows_of c.args.self.now) (rows_of c.loop-at.self) c.args.to c.args.row.now c.loop-at.at c.loop-at.invariant (omega (arith, c.loop-at-test.false, c.words-at-end.ensures))
