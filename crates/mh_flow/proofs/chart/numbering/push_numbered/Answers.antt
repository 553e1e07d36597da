use Rattle.indexmap.proofs.CallerLemmas.{insert_entry-new}
use Rattle.std.proofs.Common.{◌∙◌}
use Rattle.mh_flow.proofs.ChartLemmas.{new_config}
use Rattle.mh_flow.proofs.chart.numbering.push_numbered.Goals as goal

-- the configuration is new, so its entry goes last
pub returns : goal.returns
returns c = c.in_ok-insert.ensures.entries ∙ insert_entry-new _ c.args.numbered.now c.args.config c.args.bases (new_config c.args.config c.args.numbered.now.entries c.requires)
