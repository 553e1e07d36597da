use Rattle.std.proofs.Common.{◌<◌, sym, subst, ℕ}
use Rattle.mh_flow.specs.Membership.{rows_of}
use Rattle.mh_flow.proofs.MemberLemmas.{taken, last_waits}
use Rattle.mh_flow.proofs.fixpoint.members.Members.take_waiting.Goals as goal

pub take_row-requires : goal.take_row-requires
take_row-requires c =
    subst (λ (n : ℕ). c.in-Some.node < n) (sym c.args.self.now.fresh.ok.0) (last_waits (rows_of c.args.self.now) c.in-Some.node c.pop.new.self.items c.requires c.in-Some.ensures.items)

pub returns-in-Some-clause-some : goal.returns-in-Some-clause-some
returns-in-Some-clause-some c =
    taken (rows_of c.args.self.now) c.in-Some.node c.take_row.result c.take_row.new.rows.items c.pop.new.self.items c.requires c.in-Some.ensures.items c.take_row.ensures.row c.take_row.ensures.left
