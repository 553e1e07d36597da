use Rattle.std.proofs.Common.{◌∙◌, ap}
use Rattle.std.specs.List.{list_any}
use Rattle.mh_model.specs.Reference.{same_ref}
use Rattle.mh_model.specs.Stack.{just_above}
use Rattle.mh_stack.specs.Shelf.{Shelf}
use Rattle.mh_stack.proofs.RefLemmas.{free, put_over}
use Rattle.mh_stack.proofs.line.Line.put_above.Goals as goal

pub put_above-requires-clause-new : goal.put_above-requires-clause-new
put_above-requires-clause-new c =
    free _ _ c.args.at c.enter-number.result _ _ c.enter-number.ensures.order c.enter-number.ensures.kept c.enter-number.ensures.own
    (ap (λ (s : Shelf). list_any (same_ref c.args.at) s.places) c.self.view_is ∙ c.requires.new)

pub returns : goal.returns
returns c =
    put_over _ _ c.args.at c.args.other.now c.enter-number.result c.number_of-place.result _ _ _ c.put_above.ensures.order c.enter-number.ensures.order c.enter-number.ensures.kept c.enter-number.ensures.own
    c.number_of-place.ensures c.enter-number.ensures.within
    ∙ ap (λ (s : Shelf). just_above c.args.at c.args.other.now s.places) c.self.view_is
