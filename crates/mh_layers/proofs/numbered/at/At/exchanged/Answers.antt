use Rattle.std.proofs.Common.{Some, None, position, ap, ◌∙◌, sym}
use Rattle.mh_group.specs.Table.{is_application}
use Rattle.mh_model.specs.declared.config.Config.{Config}
use Rattle.mh_model.specs.Configuration.{is_group_of}
use Rattle.mh_model.specs.Service.{Service}
use Rattle.mh_layers.specs.Reading.{CostContext, same_setting, setting, settings}
use Rattle.mh_layers.proofs.ContextLemmas.{to_application, to_scene}
use Rattle.mh_layers.proofs.numbered.at.At.exchanged.Goals as goal

pub returns-then-has_application : goal.returns-then-has_application
returns-then-has_application c =
    let s = c.args.self.now in
    let g = c.args.group.now in
    c.place_of.ensures
    ∙ ap (λ (x : CostContext). position (same_setting (setting g None)) (settings x.reading)) c.self.view_is
    ∙ ap (λ (d : Config). position (same_setting d) (settings s.reading))
    (sym (to_application s.reading.service s.config g
    (ap (λ (x : CostContext). is_group_of is_application x.reading.service g) (sym c.self.view_is)
    ∙ ap (λ (v : Service). is_group_of is_application v g) (sym c.service.ensures) ∙ sym c.has_application.ensures ∙ c.if-has_application.true)))

pub returns-else-has_application : goal.returns-else-has_application
returns-else-has_application c =
    let s = c.args.self.now in
    let g = c.args.group.now in
    c.place_of-else-has_application.ensures
    ∙ ap (λ (x : CostContext). position (same_setting (setting x.config.app (Some g))) (settings x.reading)) c.self.view_is
    ∙ ap (λ (d : Config). position (same_setting d) (settings s.reading))
    (sym (to_scene s.reading.service s.config g
    (ap (λ (x : CostContext). is_group_of is_application x.reading.service g) (sym c.self.view_is)
    ∙ ap (λ (v : Service). is_group_of is_application v g) (sym c.service.ensures) ∙ sym c.has_application.ensures ∙ c.if-has_application.false)))
