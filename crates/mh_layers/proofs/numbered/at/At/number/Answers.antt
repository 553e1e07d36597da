use Rattle.std.proofs.Common.{ap, ◌∙◌}
use Rattle.mh_layers.specs.Reading.{CostContext, config_number}
use Rattle.mh_layers.proofs.numbered.at.At.number.Goals as goal

pub returns : goal.returns
returns c = c.self.invariant.place ∙ ap (λ (s : CostContext). config_number s.reading s.config) c.self.view_is
