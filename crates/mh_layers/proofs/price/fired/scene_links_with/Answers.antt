use Rattle.std.proofs.Common.{◌&&◌, List, ℕ, Option, filter, slice_get, ap, ◌∙◌, sym}
use Rattle.std.specs.Option.{option_copied}
use Rattle.mh_model.specs.Configuration.{scene_parts}
use Rattle.mh_model.specs.Service.{group_parts}
use Rattle.mh_model.specs.Variables.{same_value}
use Rattle.mh_layers.specs.Grouped.{has}
use Rattle.mh_layers.specs.CostNodes.{data_of, waits_for}
use Rattle.mh_layers.specs.Reading.{Reading, values_read}
use Rattle.mh_layers.proofs.price.fired.scene_links_with.Goals as goal

pub returns-in-Some : goal.returns-in-Some
returns-in-Some c x at =
    let s = c.args.here.now in
    let o = c.args.source.now in
    let kind = c.args.kind in
    c.links_with.ensures x (ap (λ (r : Reading). slice_get (values_read r o kind) c.args.value) c.numbered_service.ensures ∙ at)
    ∙ ap (λ (r : Reading). filter (λ p. waits_for o kind p && has same_value x (data_of p)) (group_parts r.service c.in-Some.scene.now)) c.numbered_service.ensures
    ∙ ap (λ (g : Option (List ℕ)). filter (λ p. waits_for o kind p && has same_value x (data_of p)) (scene_parts s.reading.service g)) (sym (ap option_copied c.in-Some.is) ∙ c.scene.ensures)
