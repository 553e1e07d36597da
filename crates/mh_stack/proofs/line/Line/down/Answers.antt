use Rattle.std.proofs.Common.{◌∙◌, ap, reverse}
use Rattle.mh_stack.specs.References.{refs_at}
use Rattle.mh_stack.specs.Rings.{next, walk, order}
use Rattle.mh_stack.specs.Shelf.{Shelf}
use Rattle.mh_stack.proofs.RefLemmas.{inside_told, in_reverse, refs_reverse}
use Rattle.mh_stack.proofs.line.Line.down.Goals as goal

pub new-requires : goal.new-requires
new-requires c =
    rw (c.as_slice.ensures.keys, c.links_down.ensures.links, c.count.ensures.count, c.links_down.ensures.reverse)
    (in_reverse _ _ (inside_told _ _ _ c.self.invariant c.len.ensures.within))

pub returns : goal.returns
returns c =
    c.new.ensures
    ∙ (λ i. refs_at (c.as_slice.ensures.keys i) (walk (next (c.links_down.ensures.links i)) (c.count.ensures.count i) 0))
    ∙ ap (refs_at c.self.inside.refs.keys) c.links_down.ensures.reverse
    ∙ refs_reverse c.self.inside.refs.keys (order c.self.inside.ring)
    ∙ ap (λ (s : Shelf). reverse s.places) c.self.view_is
