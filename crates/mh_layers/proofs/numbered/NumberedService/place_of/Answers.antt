use Rattle.std.proofs.Common.{position, ap, ◌∙◌}
use Rattle.mh_model.specs.declared.config.Config.{Config}
use Rattle.mh_layers.specs.Reading.{same_setting, settings}
use Rattle.mh_layers.proofs.numbered.NumberedService.place_of.Goals as goal

pub returns-in-Ok : goal.returns-in-Ok
returns-in-Ok c = c.number_of.ensures ∙ ap (λ (d : Config). position (same_setting d) (settings c.args.self.now)) c.in-Ok.ensures
