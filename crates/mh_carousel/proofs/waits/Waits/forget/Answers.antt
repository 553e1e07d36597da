use Rattle.std.proofs.Common.{ap, ◌∙◌}
use Rattle.mh_model.specs.Files.{forgotten}
use Rattle.mh_carousel.specs.Waited.{Objects, Waited, AreLinked, waits_from}
use Rattle.mh_carousel.proofs.LinkLemmas.{forgotten_linked, forgotten_waits}
use Rattle.mh_carousel.proofs.waits.Waits.forget.Goals as goal

pub invariant_of-self : goal.invariant_of-self
invariant_of-self c =
    rw c.forget_place.ensures.entries (forgotten_linked c.self.inside.objects.entries c.self.inside.names.entries c.self.inside.slots.items c.args.object.now c.reveal_apart.ensures.objects c.self.invariant)

pub returns-clause-waits : goal.returns-clause-waits
returns-clause-waits c =
    ap (λ (os : Objects). waits_from os c.self.inside.names.entries 0 c.self.inside.slots.items) c.forget_place.ensures.entries
    ∙ forgotten_waits c.self.inside.objects.entries c.self.inside.names.entries c.self.inside.slots.items c.args.object.now c.reveal_apart.ensures.objects
    ∙ ap (λ (v : Waited). forgotten c.args.object.now v.waits) c.self.view_is
