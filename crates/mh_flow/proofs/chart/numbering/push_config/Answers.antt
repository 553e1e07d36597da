use Rattle.std.proofs.Common.{rules, ◌≡◌, List, ◌+◌, ◌++◌, length, ap, ◌∙◌}
use Rattle.mh_model.specs.declared.object.Fixed.{Fixed}
use Rattle.mh_flow.specs.Chart.{sets_in}
use Rattle.mh_flow.specs.Index.{holders}
use Rattle.mh_flow.proofs.ChartLemmas.{held_length, sets_joined}
use Rattle.mh_flow.proofs.chart.numbering.push_config.Goals as goal

pub returns-clause-sets : goal.returns-clause-sets
returns-clause-sets c =
    let old = c.args.sets.now.items in
    sets_joined c.args.number old c.push_held.new.sets.items c.push_held-2.new.sets.items c.parts-parts.result.now c.scene_parts.result.now c.in_ok-push_held.ensures c.in_ok-push_held-2.ensures
    ∙ (λ i. old ++ sets_in c.args.number 0 (c.parts-parts.ensures i ++ c.scene_parts.ensures i))

pub returns-clause-bases : goal.returns-clause-bases
returns-clause-bases c =
    let old = c.args.sets.now.items in
    let first : c.len-application.result ≡ length old = search rules in
    let second : c.len-scene.result ≡ length c.push_held.new.sets.items = search rules in
    let scene =
    second
    ∙ held_length c.args.number _ old c.push_held.new.sets.items c.parts-parts.result.now c.in_ok-push_held.ensures
    ∙ ap (λ (ps : List Fixed). length old + length (holders ps)) c.parts-parts.ensures in
    λ i. record { application = first i; scene = scene i }
