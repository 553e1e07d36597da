use Rattle.std.proofs.Common.{◌∙◌, ap}
use Rattle.mh_stack.specs.References.{refs_at}
use Rattle.mh_stack.specs.Rings.{next, walk}
use Rattle.mh_stack.specs.Shelf.{Shelf}
use Rattle.mh_stack.proofs.RefLemmas.{inside_told}
use Rattle.mh_stack.proofs.line.Line.up.Goals as goal

pub new-requires : goal.new-requires
new-requires c = rw (c.as_slice.ensures.keys, c.links_up.ensures, c.count.ensures.count) (inside_told _ _ _ c.self.invariant c.len.ensures.within)

pub returns : goal.returns
returns c =
    c.new.ensures
    ∙ (λ i. refs_at (c.as_slice.ensures.keys i) (walk (next (c.links_up.ensures i)) (c.count.ensures.count i) 0))
    ∙ ap (λ (s : Shelf). s.places) c.self.view_is
