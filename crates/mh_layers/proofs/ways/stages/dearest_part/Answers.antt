use Rattle.std.specs.Prelude.{[], List, get_or}
use Rattle.std.proofs.Common.{ap, ◌∙◌}
use Rattle.mh_model.specs.declared.act.Act.{Act}
use Rattle.mh_layers.proofs.ActiveLemmas.{part_active, part_at_here, part_at_there}
use Rattle.mh_layers.proofs.StageLemmas.{acts_found}
use Rattle.mh_layers.proofs.WorthLemmas.{acts_costly}
use Rattle.mh_layers.proofs.ways.stages.dearest_part.Goals as goal

pub dearest_act-requires-clause-known : goal.dearest_act-requires-clause-known
dearest_act-requires-clause-known c =
    let r = c.args.numbered_service.now in
    let k = c.args.node.now in
    let s = c.config_of-here.result in
    let part = part_active r c.requires.reading k c.requires.active in
    let own = c.effects_at-effects.ensures part.0 (part_at_there r k s part.0 c.config_of-here.ensures part.1) in
    (acts_costly r c.requires.reading c.args.laying.now c.costs.result.now c.requires.layers c.costs.ensures k c.requires.active c.requires.costs
    s c.config_of-here.ensures part.0 (part_at_here r k s part.0 c.config_of-here.ensures part.1) c.number_of-number.result c.number_of-number.ensures c.acts-acts.result.now
    (c.acts-acts.ensures ∙ ap (λ (es : List (List Act)). get_or es c.number_of-number.result []) own)).0

pub dearest_act-requires-clause-some : goal.dearest_act-requires-clause-some
dearest_act-requires-clause-some c =
    let r = c.args.numbered_service.now in
    let k = c.args.node.now in
    let s = c.config_of-here.result in
    let part = part_active r c.requires.reading k c.requires.active in
    let own = c.effects_at-effects.ensures part.0 (part_at_there r k s part.0 c.config_of-here.ensures part.1) in
    (acts_costly r c.requires.reading c.args.laying.now c.costs.result.now c.requires.layers c.costs.ensures k c.requires.active c.requires.costs
    s c.config_of-here.ensures part.0 (part_at_here r k s part.0 c.config_of-here.ensures part.1) c.number_of-number.result c.number_of-number.ensures c.acts-acts.result.now
    (c.acts-acts.ensures ∙ ap (λ (es : List (List Act)). get_or es c.number_of-number.result []) own)).1

pub returns : goal.returns
returns c =
    let r = c.args.numbered_service.now in
    let k = c.args.node.now in
    let s = c.config_of-here.result in
    let part = part_active r c.requires.reading k c.requires.active in
    let own = c.effects_at-effects.ensures part.0 (part_at_there r k s part.0 c.config_of-here.ensures part.1) in
    acts_found r c.args.laying.now c.costs.result.now k s part.0 c.number_of-number.result c.acts-acts.result.now c.in_ok-part.part
    c.costs.ensures c.config_of-here.ensures (part_at_here r k s part.0 c.config_of-here.ensures part.1) c.number_of-number.ensures
    (c.acts-acts.ensures ∙ ap (λ (es : List (List Act)). get_or es c.number_of-number.result []) own) c.in_ok-part.ensures
