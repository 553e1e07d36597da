use Rattle.std.specs.Prelude.{◌≡◌, ◌+◌, List, length, get_or, map, min, suc, take}
use Rattle.std.specs.List.{flat_map}
use Rattle.std.proofs.Common.{arith, ap, ◌∙◌, sym}
use Rattle.std.proofs.lemmas.List.{length-map}
use Rattle.std.proofs.Math.Nat.{min-le_right}
use Rattle.mh_model.specs.declared.act.Act.{Act}
use Rattle.mh_layers.proofs.EffectLemmas.{number_at, numbers_length}
use Rattle.mh_layers.proofs.numbered.effect_row.EffectRow.first.Goals as goal

pub index-requires : goal.index-requires
index-requires c =
    let place = c.min.ensures in
    let most = min-le_right c.args.number c.len.result in
    let count = c.len.ensures in
    let there = c.self.inside.effects.ok.0 in
    let same = length-map c.self.inside.effects.items (λ e. e.now) in
    let numbers = ap length c.self.invariant ∙ numbers_length (map (λ e. e.now) c.self.inside.effects.items) 1 in
    let all = c.self.inside.firsts.ok.0 in
    omega (arith, place, most, count, there, same, numbers, all)

pub returns : goal.returns
returns c =
    let es = map (λ e. e.now) c.self.inside.effects.items in
    let n = c.args.number in
    let d = c.index.result.now in
    let place : c.min.result ≡ min n (length es) = c.min.ensures ∙ ap (min n) (c.len.ensures ∙ c.self.inside.effects.ok.0 ∙ sym (length-map c.self.inside.effects.items (λ e. e.now))) in
    let one : 1 + length (flat_map (λ (e : List Act). e) (take n es)) ≡ suc (length (flat_map (λ (e : List Act). e) (take n es))) = omega arith in
    c.index.ensures ∙ (λ i. get_or (c.self.invariant i) (place i) d) ∙ number_at es 1 n d ∙ one
    ∙ ap (λ (xs : List (List Act)). suc (length (flat_map (λ (e : List Act). e) (take n xs)))) c.self.view_is
