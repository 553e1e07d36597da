use Rattle.std.proofs.Common.{rules}
use Rattle.mh_flow.proofs.ChartLemmas.{led_fits}
use Rattle.mh_flow.proofs.opening.numbered_config.NumberedConfig.led_set.Goals as goal

pub overflow_add-result : goal.overflow_add-result
overflow_add-result c =
    let p = c.self.inside in
    let h = led_fits p.service.now p.chart.now p.number (p.config.now, p.bases.now) c.self.invariant.0 c.self.invariant.1 in
    search (rules, h)
