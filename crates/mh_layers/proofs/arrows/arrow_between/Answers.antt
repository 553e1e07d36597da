use Rattle.std.specs.Prelude.{◌≡◌, ◌<◌, ◌+◌, [], IfNone, IfSome, List, Option, Some, get_or, length, suc, take}
use Rattle.std.specs.List.{flat_map}
use Rattle.std.proofs.Common.{◌∙◌, ap, sym, subst}
use Rattle.std.proofs.lemmas.Option.{slice_get_within}
use Rattle.mh_model.specs.declared.act.Act.{Act}
use Rattle.mh_model.specs.declared.config.Config.{Config}
use Rattle.mh_model.specs.Configuration.{present}
use Rattle.mh_model.specs.Service.{part_at}
use Rattle.mh_laws.specs.Costs.{effect_at}
use Rattle.mh_layers.specs.declared.arrows.arrow.By.{By}
use Rattle.mh_layers.specs.declared.cause.Cause.{Cause}
use Rattle.mh_layers.specs.Arrows.{is_waited_for, number_by}
use Rattle.mh_layers.specs.Cycle.{cause_of}
use Rattle.mh_layers.specs.Applied.{AppliedAction, IsApplied, NoneApplied, number_in}
use Rattle.mh_layers.specs.Granting.{held_for}
use Rattle.mh_layers.specs.Listening.{source_of}
use Rattle.mh_layers.specs.Reading.{CostContext, flow_read, has_object, object_named}
use Rattle.mh_layers.specs.EffectSites.{cause_named, effect_named}
use Rattle.mh_layers.proofs.ActiveLemmas.{first_active, object_by, object_has, part_active}
use Rattle.mh_layers.proofs.ArrowLemmas.{is_arrow, number_named}
use Rattle.mh_layers.proofs.DoingLemmas.{step_does}
use Rattle.mh_layers.proofs.EffectLemmas.{acts_named}
use Rattle.mh_layers.proofs.NamingLemmas.{step_names}
use Rattle.mh_layers.proofs.WorthLemmas.{index_told}
use Rattle.mh_layers.proofs.arrows.arrow_between.Goals as goal

pub by_of-requires : goal.by_of-requires
by_of-requires c is =
    step_names c.args.here.now.reading c.requires.reading c.args.from.now c.args.first.now c.args.to.now c.requires.step c.part_of-aim.result.now
    (ap (λ (s : CostContext). part_at (effect_named s.reading c.args.to.now).object (present s.reading.service s.config)) (sym c.requires.there) ∙ c.part_of-aim.ensures)
    (sym c.number_of.ensures ∙ is)

pub cause_at-requires : goal.cause_at-requires
cause_at-requires c =
    let r = c.args.here.now.reading in
    let from = c.args.from.now in
    (λ i. has_object (c.numbered_service.ensures i) (c.object_of.ensures i))
    ∙ object_has r c.requires.reading from (first_active r from c.args.first.now c.args.to.now c.requires.step)

pub unreachable-requires : goal.unreachable-requires
unreachable-requires c =
    let r = c.args.here.now.reading in
    let from = c.args.from.now in
    let part = part_active r c.requires.reading from (first_active r from c.args.first.now c.args.to.now c.requires.step) in
    let acts = acts_named from part.0 c.effects_at-effects.result.now c.number_of-number.result c.acts-acts.result.now (c.effects_at-effects.ensures part.0 part.1) c.number_of-number.ensures c.acts-acts.ensures in
    let found = step_does r from c.args.first.now c.args.to.now c.requires.step part.0 part.1 in
    let none = subst (λ (o : Option AppliedAction). IfNone o (NoneApplied r c.args.here.now.config c.acts-acts.result.now c.args.first.now)) c.in-None.is c.in_ok-doing_of.ensures.none in
    none.none found.0
    (subst (λ (d : Config). IsApplied r d c.acts-acts.result.now c.args.first.now found.0) (sym c.requires.here)
    (subst (λ (acts : List Act). IsApplied r (effect_named r from).config acts c.args.first.now found.0) (sym acts) found.1))

pub behind_first-index-requires : goal.behind_first-index-requires
behind_first-index-requires c =
    let r = c.args.here.now.reading in
    let found = subst (λ (o : Option AppliedAction). IfSome o (IsApplied r c.args.here.now.config c.acts-acts.result.now c.args.first.now)) c.in-Some.is c.in_ok-doing_of.ensures.some in
    let within = slice_get_within c.acts-acts.result.now c.in-Some.doing.offset c.in-Some.doing.act found.place in
    subst (λ (d : AppliedAction). d.offset < length (get_or c.effects_at-effects.result.now c.number_of-number.result [])) (sym c.doing.view_is)
    (subst (λ (acts : List Act). c.in-Some.doing.offset < length acts) c.acts-acts.ensures within)

pub returns : goal.returns
returns c =
    let r = c.args.here.now.reading in
    let from = c.args.from.now in
    let part = part_active r c.requires.reading from (first_active r from c.args.first.now c.args.to.now c.requires.step) in
    let own = c.effects_at-effects.ensures part.0 part.1 in
    let n = c.number_of-number.result in
    let acts = acts_named from part.0 c.effects_at-effects.result.now n c.acts-acts.result.now own c.number_of-number.ensures c.acts-acts.ensures in
    let aim = c.part_of-aim.result.now in
    let doing = c.in-Some.doing in
    let of = c.in_ok-arrow-in-Some.ensures in
    let number = c.number_of-number.ensures ∙ sym (number_named r from) in
    let config = c.config.ensures ∙ c.requires.here in
    let object = (λ i. object_named (c.numbered_service.ensures i) (c.object_of.ensures i)) ∙ object_by r from in
    let cause : c.in_ok-arrow-in-Some.arrow.cause ≡ cause_named r from = of.cause ∙ c.in_ok-cause.ensures
    ∙ (λ i. cause_of (c.numbered_service.ensures i).service (record { config = config i; object = object i; number = number i })) in
    is_arrow r c.requires.reading from c.args.first.now c.args.to.now c.requires.step part.0 aim part.1
    (ap (λ (s : CostContext). part_at (effect_named s.reading c.args.to.now).object (present s.reading.service s.config)) (sym c.requires.there) ∙ c.part_of-aim.ensures)
    doing
    (subst (λ (d : Config). IsApplied r d (effect_at part.0 (number_in from)) c.args.first.now doing) c.requires.here
    (subst (λ (xs : List Act). IsApplied r c.args.here.now.config xs c.args.first.now doing) acts
    (subst (λ (o : Option AppliedAction). IfSome o (IsApplied r c.args.here.now.config c.acts-acts.result.now c.args.first.now)) c.in-Some.is c.in_ok-doing_of.ensures.some)))
    c.in_ok-arrow-in-Some.arrow
    cause
    (of.index ∙ index_told r from part.0 n doing.offset c.behind_first-index.result part.1 c.number_of-number.ensures
    (c.behind_first-index.ensures
    ∙ (λ i. suc (length (flat_map (λ (e : List Act). e) (take n (own i)))) + (c.doing.view_is i).offset))
    ∙ ap (λ (x : Cause). x.index + doing.offset) (sym cause))
    of.action
    (of.held ∙ ap (λ (d : Config). held_for r.service (flow_read r) d doing.act doing.at (source_of aim)) c.requires.here)
    (ap number_by of.by ∙ c.in_ok-by.ensures.number ∙ c.number_of.ensures)
    (ap (λ (b : By). is_waited_for b aim) of.by ∙ c.in_ok-by.ensures.waited)
