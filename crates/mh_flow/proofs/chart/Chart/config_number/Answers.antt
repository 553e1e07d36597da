use Rattle.std.proofs.Common.{ap, ◌∙◌}
use Rattle.mh_flow.specs.Chart.{config_number}
use Rattle.mh_flow.proofs.ChartLemmas.{number_by_key}
use Rattle.mh_flow.proofs.chart.Chart.config_number.Goals as goal

pub returns : goal.returns
returns c = c.get_index_of.ensures.index ∙ number_by_key c.args.config.now c.self.inside.configs.entries ∙ ap (λ ch. config_number ch c.args.config.now) c.self.view_is
