use Rattle.std.specs.Prelude.{slice_get}
use Rattle.std.specs.Option.{option_copied}
use Rattle.std.proofs.Common.{◌∙◌, ap, sym}
use Rattle.mh_base.specs.declared.obj_ref.ObjRef.{ObjRef}
use Rattle.mh_model.specs.declared.config.Config.{Config}
use Rattle.mh_model.specs.Configuration.{present}
use Rattle.mh_model.specs.Service.{part_at}
use Rattle.mh_layers.specs.Reading.{Reading}
use Rattle.mh_layers.specs.EffectSites.{effect_named}
use Rattle.mh_layers.proofs.ActiveLemmas.{named_object, object_there, part_there}
use Rattle.mh_layers.proofs.arrows.part_of.Goals as goal

pub unreachable-requires-in_default-object_at : goal.unreachable-requires-in_default-object_at
unreachable-requires-in_default-object_at c =
    let r = c.args.here.now.reading in
    object_there r c.requires.reading c.args.node.now c.requires.active c.in-Effect.field-0 c.in-Effect.number c.in-Effect.field-2 c.in-Effect.is
    (ap (λ (s : Reading). slice_get s.listeners.objects c.in-Effect.number) (sym c.numbered_service.ensures) ∙ sym c.object_at.ensures ∙ ap option_copied c.in_default-object_at.is)

pub unreachable-requires-in-None : goal.unreachable-requires-in-None
unreachable-requires-in-None c =
    let r = c.args.here.now.reading in
    let own = named_object r c.args.node.now c.in-Effect.field-0 c.in-Effect.number c.in-Effect.field-2 c.in-Some.at.now c.in-Effect.is
    (ap (λ (s : Reading). slice_get s.listeners.objects c.in-Effect.number) (sym c.numbered_service.ensures) ∙ sym c.object_at.ensures ∙ ap option_copied c.in-Some.is) in
    part_there r c.requires.reading c.args.node.now c.requires.active
    (ap (λ (o : ObjRef). part_at o (present r.service (effect_named r c.args.node.now).config)) own
    ∙ ap (λ (d : Config). part_at c.in-Some.at.now (present r.service d)) (sym c.requires.config) ∙ sym c.find.ensures ∙ ap option_copied c.in-None.is)

pub returns : goal.returns
returns c =
    let r = c.args.here.now.reading in
    let own = named_object r c.args.node.now c.in-Effect.field-0 c.in-Effect.number c.in-Effect.field-2 c.in-Some.at.now c.in-Effect.is
    (ap (λ (s : Reading). slice_get s.listeners.objects c.in-Effect.number) (sym c.numbered_service.ensures) ∙ sym c.object_at.ensures ∙ ap option_copied c.in-Some.is) in
    ap (λ (o : ObjRef). part_at o (present r.service c.args.here.now.config)) own ∙ sym c.find.ensures ∙ ap option_copied c.in-Some-find.is
