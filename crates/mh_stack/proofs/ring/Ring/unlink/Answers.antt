use Rattle.mh_stack.proofs.RoundLemmas.{unlinked_round}
use Rattle.mh_stack.proofs.ring.Ring.unlink.Goals as goal

pub invariant_of-self : goal.invariant_of-self
invariant_of-self c =
    (unlinked_round c.args.self.now _ c.args.number c.over-over.result c.under-under.result _ _ _ _ c.self.view_is c.self.invariant c.requires.some c.requires.linked c.over-over.ensures c.under-under.ensures
    c.put.ensures.items c.put-2.ensures.items c.put-3.ensures.items c.put-4.ensures.items).0

pub returns-clause-order : goal.returns-clause-order
returns-clause-order c =
    (unlinked_round c.args.self.now _ c.args.number c.over-over.result c.under-under.result _ _ _ _ c.self.view_is c.self.invariant c.requires.some c.requires.linked c.over-over.ensures c.under-under.ensures
    c.put.ensures.items c.put-2.ensures.items c.put-3.ensures.items c.put-4.ensures.items).1
