use Rattle.std.proofs.Common.{ap, ◌∙◌}
use Rattle.mh_model.specs.Configuration.{present}
use Rattle.mh_layers.specs.Reading.{CostContext}
use Rattle.mh_layers.proofs.numbered.at.At.parts.Goals as goal

pub returns : goal.returns
returns c =
    c.parts.ensures ∙ c.self.invariant.there ∙ ap (λ (s : CostContext). present s.reading.service s.config) c.self.view_is
