use Rattle.std.proofs.Common.{◌∙◌, ap}
use Rattle.std.specs.List.{list_any}
use Rattle.mh_model.specs.Reference.{same_ref}
use Rattle.mh_model.specs.Stack.{sent_to_back}
use Rattle.mh_stack.specs.Shelf.{Shelf}
use Rattle.mh_stack.proofs.ShelfLemmas.{gone, sent}
use Rattle.mh_stack.proofs.stack.Stack.send_to_back.Goals as goal

pub put_bottom-requires-clause-new : goal.put_bottom-requires-clause-new
put_bottom-requires-clause-new c = ap (list_any (same_ref c.args.at)) c.take_off.ensures.places ∙ gone c.args.at _

pub returns : goal.returns
returns c =
    sent c.args.at _ _ _ _ _ c.take_off.ensures.places c.take_off-2.ensures.places c.put_bottom.ensures ∙ ap (λ (s : Shelf). sent_to_back c.args.at s.places) c.self.view_is
