use Rattle.std.proofs.Common.{rules, ◌≡◌, ap, ◌∙◌}
use Rattle.mh_model.specs.Configuration.{configurations}
use Rattle.mh_flow.specs.Chart.{based, first_sets}
use Rattle.mh_flow.proofs.ChartLemmas.{first_length}
use Rattle.mh_flow.proofs.chart.parts.numbers_of.Goals as goal

pub returns-clause-configs : goal.returns-clause-configs
returns-clause-configs c =
    let v = c.args.service.now in
    let each = c.in_ok-configs.ensures.each in
    let made : c.in_ok-sets.sets.items ≡ first_sets (configurations v) = c.in_ok-sets.ensures ∙ ap first_sets (c.as_slice.ensures.value ∙ each) in
    c.in_ok-configs-2.ensures.configs ∙ (λ i. based v (first_length c.in_ok-sets.sets.items (configurations v) made i) (each i))
