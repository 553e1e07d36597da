use Rattle.std.specs.Prelude.{◌≡◌, Some}
use Rattle.std.specs.Option.{option_copied, option_map}
use Rattle.std.proofs.Common.{ap, ◌∙◌, sym}
use Rattle.mh_model.specs.Configuration.{present}
use Rattle.mh_model.specs.Service.{part_at}
use Rattle.mh_laws.specs.Costs.{effects}
use Rattle.mh_layers.specs.Reading.{object_named}
use Rattle.mh_layers.proofs.cycle.effect_site.effects_in.Goals as goal

pub returns-in-None : goal.returns-in-None
returns-in-None c =
    ap (option_map effects)
    (sym (ap option_copied c.in-None.is) ∙ c.find.ensures ∙ (λ i. part_at (c.object.ensures i) (c.present-present.ensures i)))

pub returns-in-Some : goal.returns-in-Some
returns-in-Some c =
    let r = c.args.numbered_service.now in
    let at = sym (λ i. part_at (c.object.ensures i) (c.present-present.ensures i)) ∙ sym c.find.ensures ∙ ap option_copied c.in-Some.is in
    ap Some (c.effects.ensures c.args.config.now _ at) ∙ sym (ap (option_map effects) at)
