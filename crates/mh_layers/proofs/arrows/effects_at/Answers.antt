use Rattle.std.specs.Prelude.{◌≡◌, true, Some}
use Rattle.std.proofs.Common.{ap, ◌∙◌, subst, sym}
use Rattle.mh_base.specs.declared.obj_ref.ObjRef.{ObjRef}
use Rattle.mh_model.specs.Configuration.{present}
use Rattle.mh_model.specs.Service.{part_at}
use Rattle.mh_laws.specs.Costs.{effects}
use Rattle.mh_layers.specs.Reading.{Reading, has_object, object_named}
use Rattle.mh_layers.specs.EffectSites.{effect_named}
use Rattle.mh_layers.proofs.ActiveLemmas.{object_by, object_has}
use Rattle.mh_layers.proofs.arrows.effects_at.Goals as goal

pub effects-requires : goal.effects-requires
effects-requires c =
    let r = c.args.here.now.reading in
    (λ i. has_object (c.numbered_service.ensures i) (c.object_of.ensures i)) ∙ object_has r c.requires.reading c.args.node.now c.requires.active

pub returns : goal.returns
returns c = λ p at.
    let r = c.args.here.now.reading in
    let config = (effect_named r c.args.node.now).config in
    c.effects.ensures config p
    ((λ i. part_at (object_named (c.numbered_service.ensures i) (c.object_of.ensures i)) (present (c.numbered_service.ensures i).service config))
    ∙ ap (λ (o : ObjRef). part_at o (present r.service config)) (object_by r c.args.node.now) ∙ at)
