use Rattle.std.specs.Prelude.{◌≡◌, [], List, Option, None, get_or, length, slice_get, suc, take}
use Rattle.std.specs.List.{flat_map}
use Rattle.std.specs.Option.{option_map, option_map_or}
use Rattle.std.proofs.Common.{ap, ◌∙◌}
use Rattle.mh_model.specs.declared.act.Act.{Act}
use Rattle.mh_model.specs.Configuration.{present}
use Rattle.mh_model.specs.Service.{part_at}
use Rattle.mh_layers.specs.Reading.{object_named}
use Rattle.mh_layers.proofs.EffectLemmas.{asked_there}
use Rattle.mh_layers.proofs.cycle.effect_site.cause_at.Goals as goal

pub returns : goal.returns
returns c =
    let r = c.args.numbered_service.now in
    let n = c.args.number in
    let o = part_at (object_named r c.args.place) (present r.service c.args.config.now) in
    let index =
    c.index_in-index.ensures
    ∙ ap (λ (es : Option (List (List Act))). option_map_or (λ (xs : List (List Act)). suc (length (flat_map (λ (e : List Act). e) (take n xs)))) es 1) c.effects_in-effects.ensures
    ∙ asked_there (λ (xs : List (List Act)). suc (length (flat_map (λ (e : List Act). e) (take n xs)))) o 1 in
    let action =
    c.action_in-action.ensures
    ∙ ap (λ (es : Option (List (List Act))). option_map_or (λ (xs : List (List Act)). option_map (λ (a : Act). a.name) (slice_get (get_or xs n []) 0)) es None) c.effects_in-effects.ensures
    ∙ asked_there (λ (xs : List (List Act)). option_map (λ (a : Act). a.name) (slice_get (get_or xs n []) 0)) o None in
    λ i. record { config = c.in_ok-config.ensures i; at = (c.in_ok-at.ensures ∙ c.object.ensures) i; index = index i; action = action i }
