use Rattle.std.proofs.Common.{◌∙◌, ap}
use Rattle.mh_model.specs.Stack.{without}
use Rattle.mh_stack.specs.References.{refs_at}
use Rattle.mh_stack.specs.Shelf.{Shelf}
use Rattle.mh_stack.proofs.RefLemmas.{inside_told, mapped_without}
use Rattle.mh_stack.proofs.line.Line.take_off.Goals as goal

pub returns-clause-places : goal.returns-clause-places
returns-clause-places c =
    ap (refs_at c.self.inside.refs.keys) c.take_out.ensures.order
    ∙ mapped_without c.args.at.now _ c.number_of-number.result c.number_of-number.ensures _ (inside_told _ _ _ c.self.invariant c.len.ensures.within)
    ∙ ap (λ (s : Shelf). without c.args.at.now s.places) c.self.view_is
