use Rattle.std.proofs.Common.{◌≡◌, Some, None, Option, cond, sym, ap, ◌∙◌}
use Rattle.std.specs.Map.{lookup}
use Rattle.std.specs.Option.{option_copied, option_or}
use Rattle.std.specs.Str.{bytes_eq}
use Rattle.mh_model.specs.Configuration.{same_scene}
use Rattle.mh_model.specs.Reference.{same_ref}
use Rattle.mh_flow.specs.Chart.{sum_of}
use Rattle.mh_flow.specs.Index.{Home, held_index}
use Rattle.mh_flow.proofs.ChartLemmas.{no_node, node_is, node_there}
use Rattle.mh_flow.proofs.chart.Chart.node_from.Goals as goal

pub returns-in-None : goal.returns-in-None
returns-in-None c = λ v named e.
    let r = c.args.at.now in
    let here = bytes_eq r.group c.args.config.now.app in
    let there = same_scene c.args.config.now.scene (Some r.group) in
    let b = c.args.bases.now in
    let found : None ≡ lookup (same_ref r) (held_index v) = sym (ap option_copied c.in-None.is) ∙ c.holder.ensures ∙ ap (lookup (same_ref r)) e in
    no_node here there b.application b.scene
    ∙ ap (λ (h : Option Home). option_or (node_there here b.application h) (node_there there b.scene h)) found
    ∙ sym (node_is v c.args.config.now r b named)

pub returns-in-Some : goal.returns-in-Some
returns-in-Some c = λ v named e.
    let r = c.args.at.now in
    let here = bytes_eq r.group c.args.config.now.app in
    let there = same_scene c.args.config.now.scene (Some r.group) in
    let b = c.args.bases.now in
    let found : Some c.in-Some.home.now ≡ lookup (same_ref r) (held_index v) = sym (ap option_copied c.in-Some.is) ∙ c.holder.ensures ∙ ap (lookup (same_ref r)) e in
    let place = ap (λ h. h.place) c.home.view_is in
    c.first_of.ensures
    ∙ (λ i. option_or ((c.node_at.ensures ∙ (λ j. cond (c.eq.ensures j) (sum_of b.application (place j)) None)) i) ((c.node_at-in-Some.ensures ∙ (λ j. cond (c.is_scene.ensures j) (sum_of b.scene (place j)) None)) i))
    ∙ ap (λ (h : Option Home). option_or (node_there here b.application h) (node_there there b.scene h)) found
    ∙ sym (node_is v c.args.config.now r b named)
