use Rattle.mh_flow.proofs.EdgeLemmas.{tabled, known_edge}
use Rattle.mh_flow.proofs.fixpoint.edges.Edges.insert_recurring.Goals as goal

pub returns-in_ok-push_at-clause-tabled : goal.returns-in_ok-push_at-clause-tabled
returns-in_ok-push_at-clause-tabled c =
    tabled c.args.self.now (record { table = c.insert.new.self; rows = c.push_at.new.rows }) (record { from = c.args.from; to = c.args.to })
    c.requires.tabled c.in_ok-is_new.ensures.keys c.in_ok-push_at.ensures

pub returns-else-is_new-clause-put : goal.returns-else-is_new-clause-put
returns-else-is_new-clause-put c =
    known_edge c.args.self.now (record { from = c.args.from; to = c.args.to }) c.in_ok-is_new.is_new c.if-is_new.false
    c.in_ok-is_new.ensures.added c.requires.tabled
