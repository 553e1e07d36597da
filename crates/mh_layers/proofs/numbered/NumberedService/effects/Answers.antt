use Rattle.std.specs.Prelude.{◌≡◌, true, List, Option, Some, None, map, slice_get}
use Rattle.std.specs.Option.{option_copied}
use Rattle.std.proofs.Common.{ap, ◌∙◌, subst, sym}
use Rattle.mh_model.specs.declared.act.Act.{Act}
use Rattle.mh_layers.specs.NumberedEffects.{effects_at}
use Rattle.mh_layers.specs.Reading.{IsReading, Reading, object_named}
use Rattle.mh_layers.proofs.EffectLemmas.{effects_own, row_at}
use Rattle.mh_layers.proofs.numbered.NumberedService.effects.Goals as goal

pub unreachable-requires : goal.unreachable-requires
unreachable-requires c =
    let r = c.args.self.now in
    let rows = c.self.invariant.effects ∙ ap (λ (s : Reading). map (effects_at s.service) s.listeners.objects) c.self.view_is in
    let never =
    sym (ap option_copied c.in-None.is) ∙ c.at.ensures
    ∙ ap (λ (es : List (List (List Act))). slice_get es c.args.object) rows ∙ row_at r.service r c.args.object c.requires in
    absurd cc

pub returns : goal.returns
returns c = λ config p at.
    let r = c.args.self.now in
    let rows = c.self.invariant.effects ∙ ap (λ (s : Reading). map (effects_at s.service) s.listeners.objects) c.self.view_is in
    let row =
    sym (ap option_copied c.in-Some.is) ∙ c.at.ensures
    ∙ ap (λ (es : List (List (List Act))). slice_get es c.args.object) rows ∙ row_at r.service r c.args.object c.requires in
    let own : c.in-Some.effects.now ≡ effects_at r.service (object_named r c.args.object) = cc in
    own ∙ effects_own r.service config (object_named r c.args.object) p (subst IsReading c.self.view_is c.self.invariant.reading).flow.chart.service at
