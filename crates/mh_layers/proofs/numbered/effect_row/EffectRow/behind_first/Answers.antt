use Rattle.std.specs.Prelude.{◌<◌, [], List, length, get_or, map}
use Rattle.std.proofs.Common.{arith, subst, sym}
use Rattle.std.proofs.lemmas.List.{length-map}
use Rattle.mh_model.specs.declared.act.Act.{Act}
use Rattle.mh_layers.proofs.EffectLemmas.{acts_more, number_within}
use Rattle.mh_layers.proofs.numbered.effect_row.EffectRow.behind_first.Goals as goal

pub overflow_add-number : goal.overflow_add-number
overflow_add-number c =
    let effects = c.self.inside.effects.items in
    let less = number_within (map (λ e. e.now) effects) c.args.number c.args.offset
    (subst (λ (es : List (List Act)). c.args.offset < length (get_or es c.args.number [])) (sym c.self.view_is) c.requires) in
    let same = length-map effects (λ e. e.now) in
    let count = c.len.ensures in
    let there = c.self.inside.effects.ok.0 in
    let small = c.len.type_inv in
    omega (arith, less, same, count, there, small)

pub overflow_add-result : goal.overflow_add-result
overflow_add-result c =
    let next = acts_more c.args.self.now c.args.number c.first-2.result c.first-2.ensures in
    let less = c.requires in
    let last = c.first.ensures in
    let small = c.first.type_inv in
    omega (arith, next, less, last, small)
