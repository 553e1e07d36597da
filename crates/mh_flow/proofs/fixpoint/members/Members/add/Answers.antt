use Rattle.std.proofs.Common.{arith}
use Rattle.mh_flow.specs.Membership.{rows_of}
use Rattle.mh_flow.proofs.MemberLemmas.{one_put}
use Rattle.mh_flow.proofs.fixpoint.members.Members.add.Goals as goal

pub put-requires-clause-at : goal.put-requires-clause-at
put-requires-clause-at c = omega (arith, c.requires.member)

pub returns-clause-put : goal.returns-clause-put
returns-clause-put c = one_put (rows_of c.args.self.now) (rows_of c.put.new.self) c.args.fact.node c.args.fact.member c.in_ok-put.ensures.put
