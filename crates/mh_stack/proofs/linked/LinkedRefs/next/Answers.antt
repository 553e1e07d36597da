use Rattle.std.proofs.Common.{◌∙◌, ◌∷◌, ◌-◌, sym}
use Rattle.mh_stack.specs.References.{refs_at}
use Rattle.mh_stack.specs.Rings.{next, walk}
use Rattle.mh_stack.proofs.RefLemmas.{next_link, none_linked}
use Rattle.mh_stack.proofs.linked.LinkedRefs.next.Goals as goal

pub returns-then-left-eq0 : goal.returns-then-left-eq0
returns-then-left-eq0 c =
    let none = sym c.self.view_is ∙ none_linked _ _ _ _ c.if-left-eq0.true in
    (none, none)

pub invariant_of-self : goal.invariant_of-self
invariant_of-self c = (next_link _ _ _ _ _ c.self.invariant c.if-left-eq0.false c.next-number.ensures).2

pub ref_under-requires-clause-some : goal.ref_under-requires-clause-some
ref_under-requires-clause-some c = (next_link _ _ _ _ _ c.self.invariant c.if-left-eq0.false c.next-number.ensures).0

pub ref_under-requires-clause-known : goal.ref_under-requires-clause-known
ref_under-requires-clause-known c = (next_link _ _ _ _ _ c.self.invariant c.if-left-eq0.false c.next-number.ensures).1

pub returns : goal.returns
returns c =
    sym c.self.view_is
    ∙ (next_link _ _ _ _ _ c.self.invariant c.if-left-eq0.false c.next-number.ensures).3
    ∙ (λ i. sym c.ref_under.ensures i ∷ refs_at c.self.inside.refs.now (walk (next c.self.inside.links.now) (c.self.inside.left - 1) c.next-number.result))
