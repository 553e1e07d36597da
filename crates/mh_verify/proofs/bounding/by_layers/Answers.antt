use Rattle.std.proofs.Common.{subst, sym}
use Rattle.mh_laws.specs.Budget.{AreSmall, Bounds}
use Rattle.mh_layers.specs.Bounding.{IsFirstAbove}
use Rattle.mh_verify.specs.Free.{IsAcceptedBy, most_cost}
use Rattle.mh_verify.proofs.BoundLemmas.{accepted_by, costly_by}
use Rattle.mh_verify.proofs.bounding.by_layers.Goals as goal

pub returns-in-None : goal.returns-in-None
returns-in-None c =
    let s = c.args.service.now in
    let f = c.args.flow.now in
    let is = c.bounds-bounds.ensures in
    subst (IsAcceptedBy s f) (sym is)
    (accepted_by s f c.args.layers.now c.requires.flow c.requires.acceptable c.requires.layers (subst (AreSmall most_cost) is c.in-None.ensures.small))

pub returns-in-Some : goal.returns-in-Some
returns-in-Some c =
    costly_by c.args.service.now c.args.flow.now c.args.layers.now c.in-Some.kind c.requires.acceptable c.requires.layers
    (subst (λ (b : Bounds). IsFirstAbove most_cost b c.in-Some.kind) c.bounds-bounds.ensures c.in-Some.ensures.above)
