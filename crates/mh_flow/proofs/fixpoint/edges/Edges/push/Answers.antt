use Rattle.std.proofs.Common.{refl}
use Rattle.mh_flow.proofs.EdgeLemmas.{still_tabled}
use Rattle.mh_flow.proofs.fixpoint.edges.Edges.push.Goals as goal

pub returns-clause-tabled : goal.returns-clause-tabled
returns-clause-tabled c =
    still_tabled c.args.self.now (record { table = c.args.self.now.table; rows = c.push_at.new.rows }) c.args.from c.args.to c.requires.tabled refl c.in_ok-push_at.ensures
