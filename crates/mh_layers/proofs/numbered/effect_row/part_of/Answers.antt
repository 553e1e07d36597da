use Rattle.std.proofs.Common.{ap, sym, ◌∙◌, List, slice_get}
use Rattle.mh_model.specs.declared.object.Fixed.{Fixed}
use Rattle.mh_layers.proofs.EffectLemmas.{own_at}
use Rattle.mh_layers.proofs.numbered.effect_row.part_of.Goals as goal

pub returns-in-Some : goal.returns-in-Some
returns-in-Some c =
    sym (own_at c.args.service.now c.args.at.now c.likely_place.result c.in-Some.part.now c.groups.ensures.keys
    (ap (λ (ps : List Fixed). slice_get ps c.likely_place.result) (sym c.parts-parts.ensures) ∙ c.in-Some.ensures.0) c.in-Some.ensures.1)
