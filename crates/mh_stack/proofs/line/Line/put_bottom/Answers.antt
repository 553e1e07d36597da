use Rattle.std.proofs.Common.{◌∙◌, ◌∷◌, ap}
use Rattle.std.specs.List.{list_any}
use Rattle.mh_model.specs.Reference.{same_ref}
use Rattle.mh_stack.specs.Shelf.{Shelf}
use Rattle.mh_stack.proofs.RefLemmas.{free, put_first}
use Rattle.mh_stack.proofs.line.Line.put_bottom.Goals as goal

pub put_bottom-requires-clause-new : goal.put_bottom-requires-clause-new
put_bottom-requires-clause-new c =
    free _ _ c.args.at c.enter-number.result _ _ c.enter-number.ensures.order c.enter-number.ensures.kept c.enter-number.ensures.own
    (ap (λ (s : Shelf). list_any (same_ref c.args.at) s.places) c.self.view_is ∙ c.requires.new)

pub returns : goal.returns
returns c =
    put_first _ _ c.args.at c.enter-number.result _ _ _ c.put_bottom.ensures.order c.enter-number.ensures.order c.enter-number.ensures.kept c.enter-number.ensures.own
    ∙ ap (λ (s : Shelf). c.args.at ∷ s.places) c.self.view_is
