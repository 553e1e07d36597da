use Rattle.std.proofs.Common.{List, ◌++◌, ap, sym, ◌∙◌, append-nil}
use Rattle.mh_flow.specs.declared.fixpoint.constraints.Item.{Item}
use Rattle.mh_flow.specs.Opening.{walked}
use Rattle.mh_flow.proofs.OpeningLemmas.{not_walked, is_walked_there}
use Rattle.mh_flow.proofs.SiteLemmas.{behind}
use Rattle.mh_flow.proofs.WalkLemmas.{all_walked}
use Rattle.std.specs.List.{flat_map}
use Rattle.mh_flow.proofs.opening.numbered_config.NumberedConfig.push_variable.Goals as goal

pub returns-else-is_walked : goal.returns-else-is_walked
returns-else-is_walked c =
    let p = c.args.self.now in
    let old = c.args.items.now.items in
    sym (append-nil old)
    ∙ ap (λ (t : List Item). old ++ t) (not_walked p.service p.chart p.number p.config p.bases c.args.variable.now c.args.at.now c.is_walked.ensures.chart (sym c.is_walked.ensures.walked ∙ c.if-is_walked.false))

pub returns-in_ok-push_all_walked-2 : goal.returns-in_ok-push_all_walked-2
returns-in_ok-push_all_walked-2 c =
    let p = c.args.self.now in
    let old = c.args.items.now.items in
    let does = flat_map (walked p.service p.chart p.number p.config p.bases c.args.at.now) in
    c.in_ok-push_all_walked-2.ensures
    ∙ ap (λ (t : List Item). t ++ does c.scene_walks.result.now) c.in_ok-push_all_walked.ensures
    ∙ behind old (does c.application_walks.result.now) (does c.scene_walks.result.now)
    ∙ (λ i. old ++ (does (c.application_walks.ensures i) ++ does (c.scene_walks.ensures i)))
    ∙ ap (λ (t : List Item). old ++ t) (all_walked p.service p.chart p.number p.config p.bases c.args.variable.now c.args.at.now (is_walked_there p.service p.chart p.config c.args.variable.now (sym c.is_walked.ensures.walked ∙ c.if-is_walked.true)))
