use Rattle.std.proofs.Common.{ap, ◌∙◌}
use Rattle.mh_flow.specs.Chart.{node_from}
use Rattle.mh_flow.proofs.opening.numbered_config.NumberedConfig.node.Goals as goal

pub returns : goal.returns
returns c = c.node_in.ensures ∙ ap (λ w. node_from c.args.self.now.service w.config c.args.at.now w.bases) c.self.view_is
