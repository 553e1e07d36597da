use Rattle.std.proofs.Common.{◌∙◌, sym, ap, subst, arith, ℕ, ◌<◌, length}
use Rattle.mh_stack.specs.Rings.{Round}
use Rattle.mh_stack.proofs.RoundLemmas.{link_bounds, linked_round}
use Rattle.mh_stack.proofs.ring.Ring.link.Goals as goal

pub put-requires : goal.put-requires
put-requires c =
    subst (λ (n : ℕ). c.under-under.result < n) (sym c.self.inside.above.ok.0)
    (link_bounds c.args.self.now _ c.args.number c.args.over c.under-under.result c.self.view_is c.self.invariant c.requires.known c.requires.there c.under-under.ensures).0

pub put-requires-4 : goal.put-requires-4
put-requires-4 c =
    subst (λ (n : ℕ). c.args.over < n) (ap length (sym c.put-3.ensures.items) ∙ sym c.put-3.new.links.ok.0)
    (link_bounds c.args.self.now _ c.args.number c.args.over c.under-under.result c.self.view_is c.self.invariant c.requires.known c.requires.there c.under-under.ensures).1

pub overflow_add-self : goal.overflow_add-self
overflow_add-self c =
    let all = linked_round c.args.self.now _ c.args.number c.args.over c.under-under.result _ _ _ _ c.self.view_is c.self.invariant c.requires.some c.requires.known c.requires.new c.requires.there c.under-under.ensures
    c.put.ensures.items c.put-2.ensures.items c.put-3.ensures.items c.put-4.ensures.items in
    omega (arith, all.2, ap (λ (r : Round). length r.above) c.self.view_is, c.len.ensures.len, c.len.type_inv)

pub invariant_of-self : goal.invariant_of-self
invariant_of-self c =
    (linked_round c.args.self.now _ c.args.number c.args.over c.under-under.result _ _ _ _ c.self.view_is c.self.invariant c.requires.some c.requires.known c.requires.new c.requires.there c.under-under.ensures
    c.put.ensures.items c.put-2.ensures.items c.put-3.ensures.items c.put-4.ensures.items).0

pub returns-clause-order : goal.returns-clause-order
returns-clause-order c =
    (linked_round c.args.self.now _ c.args.number c.args.over c.under-under.result _ _ _ _ c.self.view_is c.self.invariant c.requires.some c.requires.known c.requires.new c.requires.there c.under-under.ensures
    c.put.ensures.items c.put-2.ensures.items c.put-3.ensures.items c.put-4.ensures.items).1
