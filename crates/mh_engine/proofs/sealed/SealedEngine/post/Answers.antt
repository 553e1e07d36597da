use Rattle.mh_engine.proofs.SealedLemmas.{barred_so, free_so, no_obstacle, taken_so}
use Rattle.mh_engine.proofs.sealed.SealedEngine.post.Goals as goal

pub returns-in-Ok-clause-posted : goal.returns-in-Ok-clause-posted
returns-in-Ok-clause-posted c =
    taken_so c.args.self.now c.post_so.new.self c.args.input c.in-Ok.differs c.budget_behind-budget.result c.post_so.result c.in-Ok.ensures c.budget_behind-budget.ensures
    c.post_so.ensures.posted c.post_so.ensures.accepted

pub returns-in-Ok-clause-accepted : goal.returns-in-Ok-clause-accepted
returns-in-Ok-clause-accepted c = free_so c.args.self.now c.args.input c.in-Ok.differs c.post_so.result c.in-Ok.ensures c.post_so.ensures.accepted

pub returns-in-Ok-clause-barred : goal.returns-in-Ok-clause-barred
returns-in-Ok-clause-barred c = barred_so c.args.self.now c.args.input c.in-Ok.differs c.post_so.result c.in-Ok.ensures c.post_so.ensures.barred

pub returns-in-Err-clause-barred : goal.returns-in-Err-clause-barred
returns-in-Err-clause-barred c = λ o e. no_obstacle o e
