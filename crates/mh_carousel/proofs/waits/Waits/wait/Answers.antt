use Rattle.std.proofs.Common.{rules, ap, ◌∙◌, ◌≡◌, Some, length}
use Rattle.mh_model.specs.Files.{awaited}
use Rattle.mh_carousel.specs.Waited.{Waited}
use Rattle.mh_carousel.proofs.AddLemmas.{added}
use Rattle.mh_carousel.proofs.waits.Waits.wait.Goals as goal

pub invariant_of-self : goal.invariant_of-self
invariant_of-self c =
    let next : c.len-place.result ≡ length c.self.inside.slots.items = search rules in
    (added c.self.inside.objects.entries _ c.self.inside.names.entries _ c.self.inside.slots.items _ c.args.wait.object c.args.wait.name c.len-place.result c.put_object-object.result c.put_name-name.result.0 c.put_name-name.result.1
    c.reveal_apart.ensures.objects c.reveal_apart.ensures.names c.self.invariant next c.put_object-object.ensures.entries c.put_object-object.ensures.stands c.put_name-name.ensures.entries c.put_name-name.ensures.stands c.put_name-name.ensures.older c.push_reserved.ensures.items).0

pub returns : goal.returns
returns c =
    let next : c.len-place.result ≡ length c.self.inside.slots.items = search rules in
    (added c.self.inside.objects.entries _ c.self.inside.names.entries _ c.self.inside.slots.items _ c.args.wait.object c.args.wait.name c.len-place.result c.put_object-object.result c.put_name-name.result.0 c.put_name-name.result.1
    c.reveal_apart.ensures.objects c.reveal_apart.ensures.names c.self.invariant next c.put_object-object.ensures.entries c.put_object-object.ensures.stands c.put_name-name.ensures.entries c.put_name-name.ensures.stands c.put_name-name.ensures.older c.push_reserved.ensures.items).1
    ∙ ap (λ (v : Waited). awaited (Some c.args.wait.name) c.args.wait.object v.waits) c.self.view_is
