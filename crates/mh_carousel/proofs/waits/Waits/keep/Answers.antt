use Rattle.std.proofs.Common.{ap, ◌∙◌, filter}
use Rattle.std.specs.Str.{bytes_eq}
use Rattle.mh_carousel.specs.Waited.{Objects, Waited, waits_from}
use Rattle.mh_carousel.proofs.LinkLemmas.{left_linked, left_waits}
use Rattle.mh_carousel.proofs.waits.Waits.keep.Goals as goal

pub invariant_of-self : goal.invariant_of-self
invariant_of-self c =
    rw c.keep_places.ensures.entries (left_linked c.self.inside.objects.entries c.self.inside.names.entries c.self.inside.slots.items c.args.application.now c.self.invariant)

pub returns-clause-waits : goal.returns-clause-waits
returns-clause-waits c =
    ap (λ (os : Objects). waits_from os c.self.inside.names.entries 0 c.self.inside.slots.items) c.keep_places.ensures.entries
    ∙ left_waits c.self.inside.objects.entries c.self.inside.names.entries c.self.inside.slots.items c.args.application.now
    ∙ ap (λ (v : Waited). filter (λ w. bytes_eq w.object.group c.args.application.now) v.waits) c.self.view_is
