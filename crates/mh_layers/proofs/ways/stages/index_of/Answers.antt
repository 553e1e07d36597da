use Rattle.std.specs.Prelude.{◌<◌, ◌+◌, [], List, get_or, length, suc, take}
use Rattle.std.specs.List.{flat_map}
use Rattle.std.proofs.Common.{ap, ◌∙◌, subst, sym}
use Rattle.mh_model.specs.declared.act.Act.{Act}
use Rattle.mh_layers.proofs.ActiveLemmas.{part_active, part_at_there}
use Rattle.mh_layers.proofs.WorthLemmas.{index_told, offset_within}
use Rattle.mh_layers.proofs.ways.stages.index_of.Goals as goal

pub behind_first-requires : goal.behind_first-requires
behind_first-requires c =
    let r = c.args.numbered_service.now in
    let k = c.args.node.now in
    let n = c.number_of-number.result in
    let part = part_active r c.requires.reading k c.requires.active in
    let own = c.effects_at-effects.ensures part.0 (part_at_there r k c.config_of-here.result part.0 c.config_of-here.ensures part.1) in
    subst (λ (es : List (List Act)). c.args.offset < length (get_or es n [])) (sym own)
    (offset_within r k part.0 n c.args.offset part.1 c.number_of-number.ensures c.requires.within)

pub returns : goal.returns
returns c =
    let r = c.args.numbered_service.now in
    let k = c.args.node.now in
    let n = c.number_of-number.result in
    let part = part_active r c.requires.reading k c.requires.active in
    let own = c.effects_at-effects.ensures part.0 (part_at_there r k c.config_of-here.result part.0 c.config_of-here.ensures part.1) in
    index_told r k part.0 n c.args.offset _ part.1 c.number_of-number.ensures
    (c.behind_first.ensures ∙ ap (λ (es : List (List Act)). suc (length (flat_map (λ (e : List Act). e) (take n es))) + c.args.offset) own)
