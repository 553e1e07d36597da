use Rattle.std.proofs.Common.{◌∙◌, ap}
use Rattle.mh_model.specs.Stack.{without}
use Rattle.mh_stack.specs.Shelf.{Shelf}
use Rattle.mh_stack.proofs.ShelfLemmas.{fallen}
use Rattle.mh_stack.proofs.stack.Stack.fall.Goals as goal

pub returns-clause-places : goal.returns-clause-places
returns-clause-places c =
    fallen c.args.at.now _ _ _ _ c.take_off.ensures.places c.take_off-2.ensures.places ∙ ap (λ (s : Shelf). without c.args.at.now s.places) c.self.view_is
