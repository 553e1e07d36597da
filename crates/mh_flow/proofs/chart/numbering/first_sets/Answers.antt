use Rattle.std.proofs.Common.{List, ◌++◌, ◌+◌, drop, ap, ◌∙◌}
use Rattle.mh_flow.specs.declared.chart.Set.{Set}
use Rattle.mh_flow.specs.Chart.{led_from}
use Rattle.mh_flow.proofs.ChartLemmas.{led_behind}
use Rattle.mh_flow.proofs.chart.numbering.first_sets.Goals as goal

pub loop-number-preserved : goal.loop-number-preserved
loop-number-preserved c =
    let n = c.loop-number.number in
    let cs = c.args.configs.now in
    ap (λ (t : List Set). t ++ led_from (n + 1) (drop (n + 1) cs)) c.in_ok-push-2.ensures.items
    ∙ led_behind c.loop-number.sets.items n cs c.loop-number-test.true
    ∙ c.loop-number.invariant
