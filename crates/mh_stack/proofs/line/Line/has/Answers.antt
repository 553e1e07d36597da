use Rattle.std.proofs.Common.{◌∙◌, ap}
use Rattle.std.specs.List.{list_any}
use Rattle.mh_model.specs.Reference.{same_ref}
use Rattle.mh_stack.specs.Shelf.{Shelf}
use Rattle.mh_stack.proofs.RefLemmas.{inside_told, mapped_any}
use Rattle.mh_stack.proofs.line.Line.has.Goals as goal

pub returns : goal.returns
returns c =
    c.has.ensures
    ∙ mapped_any c.args.at.now _ c.number_of-number.result c.number_of-number.ensures _ (inside_told _ _ _ c.self.invariant c.len.ensures.within)
    ∙ ap (λ (s : Shelf). list_any (same_ref c.args.at.now) s.places) c.self.view_is
